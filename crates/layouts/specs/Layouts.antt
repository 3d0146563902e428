-- Obstacles lent as numbers, and their first fault in the order of a scene's fields (02, T-01 "Refusals: 2 to 7 as in
-- the reader's field order, 2 meaning fewer or more numbers lent than the counts say", T-08 and T-11). Each list is
-- what is left of what was lent. Definitions only. Assumes nothing.
use Rattle.std.specs.Prelude.{ℕ, zero, suc, ◌+◌, ◌*◌, not, List, [], ◌∷◌, leb, length, drop, get_or, Float, Result, Ok, Err}
use Rattle.admission.specs.declared.refusal.Refusal.{Refusal}
use Rattle.admission.specs.Refusals.{number_of}
use Rattle.admission.specs.Faults.{Fault, fine, fault, must, ◌⊳◌, unless_fault}
use Rattle.admission.specs.Heads.{head_of, is_kind, room_for, is_empty_open}
use Rattle.obstacles.specs.ObstacleFaults.{outline_fault}
use Rattle.dodgy_2d.specs.Scenes.{most_obstacles}

-- how many vertices an admitted layout has; or the number of its first fault
pub data Layout : Type 0 where
  vertices : ℕ → Layout
  at_fault : ℕ → Layout

-- ---- one field: first whether it is lent (2), then its own rule

unfoldable pub kind_fault : List ℕ → Fault
kind_fault [] = fault 2
kind_fault (k ∷ ks) = must (is_kind k) 3

unfoldable pub count_fault : ℕ → ℕ → List ℕ → Fault
count_fault total kind [] = fault 2
count_fault total kind (c ∷ cs) = must (room_for total c) 4 ⊳ must (not (is_empty_open kind c)) 5

-- ---- obstacles

-- the kind and the count that stand in front
abbrev pub own_kind : List ℕ → ℕ
own_kind ks = get_or ks 0 0

abbrev pub own_count : List ℕ → ℕ
own_count cs = get_or cs 0 0

-- the obstacle in front, behind the running total of vertices
unfoldable pub own_fault : ℕ → List ℕ → List ℕ → List Float → Fault
own_fault total ks cs xs = kind_fault ks ⊳ count_fault total (own_kind ks) cs ⊳ outline_fault (head_of (own_kind ks) (own_count cs)) xs

-- obstacle by obstacle, as many as n
unfoldable pub lent_fault : ℕ → ℕ → List ℕ → List ℕ → List Float → Fault
lent_fault total zero ks cs xs = fine
lent_fault total (suc n) ks cs xs =
    own_fault total ks cs xs ⊳ lent_fault (total + own_count cs) n (drop 1 ks) (drop 1 cs) (drop (2 * own_count cs) xs)

-- the count of obstacles (4), then the obstacles
unfoldable pub layout_fault : ℕ → List ℕ → List ℕ → List Float → Fault
layout_fault n ks cs xs = must (leb n most_obstacles) 4 ⊳ lent_fault 0 n ks cs xs

-- the vertices of the first n obstacles together
unfoldable pub vertex_total : ℕ → List ℕ → ℕ
vertex_total zero cs = 0
vertex_total (suc n) cs = own_count cs + vertex_total n (drop 1 cs)

unfoldable pub layout_in : ℕ → List ℕ → List ℕ → List Float → Layout
layout_in n ks cs xs = unless_fault at_fault (layout_fault n ks cs xs) (vertices (vertex_total n cs))

-- the number that is told, or none
abbrev pub fault_in : Layout → Fault
fault_in (vertices t) = fine
fault_in (at_fault r) = fault r

-- ---- "more numbers lent than the counts say": 2, told behind everything else

unfoldable pub left_fault : ℕ → ℕ → List ℕ → List ℕ → List Float → Fault
left_fault n total ks cs xs = must (leb (length ks) n) 2 ⊳ must (leb (length cs) n) 2 ⊳ must (leb (length xs) (2 * total)) 2

-- ---- what the code says: a layout, or a field's fault where there is more to tell

abbrev pub layout_of : Result ℕ Refusal → Layout
layout_of (Ok t) = vertices t
layout_of (Err r) = at_fault (number_of r)

abbrev pub fault_told : {A : Type 0} → Result A Refusal → Fault
fault_told (Ok _) = fine
fault_told (Err r) = fault (number_of r)
