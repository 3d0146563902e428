-- 02, T-07: scene records of both versions, read field by field to a scene and its neighbours' numbers. Definitions
-- only. Assumes nothing.
use Rattle.std.specs.Prelude.{ℕ, ◌-◌, ◌*◌, Bool, cond, ◌||◌, List, map, leb, eqb, length, replicate, Float, Result, Ok, Err}
use Rattle.std.proofs.lemmas.List.Edits.{sets}
use Rattle.admission.specs.declared.refusal.Refusal.{Refusal}
use Rattle.admission.specs.Refusals.{refusal_of}
use Rattle.lines.specs.declared.Line.{Line}
use Rattle.lines.specs.Lines.{four_of}
use Rattle.obstacles.specs.Read.{blank_numbers}
use Rattle.dodgy_2d.specs.declared.Scene.{Scene}
use Rattle.dodgy_2d.specs.Scenes.{most_obstacles, most_neighbours}
use Rattle.fields.specs.Bytes.{each}
use Rattle.fields.specs.Got.{Got, refused, got, then, guard, word, many}
use Rattle.scene_records.specs.declared.Cart.{Cart}
use Rattle.scene_records.specs.declared.Version.{Version}
use Rattle.scene_records.specs.declared.NumberedScene.{NumberedScene}
use Rattle.scene_records.specs.declared.Version.TheVariants.{One, Two}
use Rattle.scene_records.specs.Steps.{scene_version, version, count, ended}
use Rattle.scene_records.specs.Parts.{cart, Obstacle, obstacles, neighbour}
use Rattle.scene_records.specs.Records.{scene_of, longest_rest, announced}

-- ---- the versions

-- "Version 2 has version byte 2"
abbrev pub byte_of : Version → ℕ
byte_of One = scene_version
byte_of Two = 2

-- "its longest record is 2,887 bytes"
abbrev pub longest_either : ℕ
longest_either = 2887

abbrev pub longest_of : Version → ℕ
longest_of One = longest_rest
longest_of Two = longest_either

abbrev pub is_either : ℕ → Bool
is_either b = eqb b (byte_of One) || eqb b (byte_of Two)

abbrev pub version_of : ℕ → Version
version_of b = cond (eqb b (byte_of Two)) Two One

-- "1, at the version, for any other version"
unfoldable pub either_version : List ℕ → ℕ → Got Version
either_version s at = then (word 1 s at) λ b a. guard (is_either b) 1 (got (version_of b) a)

-- ---- the neighbour lines

-- "before each neighbour line's point, a four-byte neighbour number"; "a version 1 neighbour has number 0"
unfoldable pub line_number : Version → List ℕ → ℕ → Got ℕ
line_number One s at = got 0 at
line_number Two s at = word 4 s at

pub record NumberedLine : Type 0 where
  pub number : ℕ
  pub line : Line

abbrev pub numbered : ℕ → Line → NumberedLine
numbered n l = record { number = n; line = l }

unfoldable pub numbered_line : Version → List ℕ → ℕ → Got NumberedLine
numbered_line v s at = then (line_number v s at) λ n a. then (neighbour s a) λ l b. got (numbered n l) b

unfoldable pub numbered_lines : Version → List ℕ → ℕ → ℕ → Got (List NumberedLine)
numbered_lines v s n at = many (λ (u : Unit {0}). numbered_line v s) (λ u l. u) n tt at

-- ---- the fields

-- those behind the version, in 01's order, and what is made of them
unfoldable pub fields_with : {A : Type 0} → (Cart → ℕ → List Obstacle → ℕ → List NumberedLine → A) → Version → List ℕ → ℕ → Got A
fields_with make v s at =
    then (cart s at) λ c b.
    then (count most_obstacles s b) λ n d.
    then (obstacles s n 0 d) λ os e.
    then (count most_neighbours s e) λ m f.
    then (numbered_lines v s m f) λ ls g.
    then (ended s g) λ u h.
    got (make c n os m ls) h

-- "4 for a length over 2,887 in its old place and, right after the version, over 2,631 under version 1"
unfoldable pub behind_version : {A : Type 0} → (Cart → ℕ → List Obstacle → ℕ → List NumberedLine → A) → Version → List ℕ
    → ℕ → Got A
behind_version make v s at = guard (leb (length s - 2) (longest_of v)) 4 (fields_with make v s at)

-- a record of one version: "1, at the version, for .. a move from the wrong one"
unfoldable pub record_with : {A : Type 0} → (Cart → ℕ → List Obstacle → ℕ → List NumberedLine → A) → Version → List ℕ → Got A
record_with make v s = then (announced longest_either s) λ u a. then (version (byte_of v) s a) λ w b. behind_version make v s b

-- ---- what is made of them: the parts, or the scene and its numbers

pub record SceneParts : Type 0 where
  pub cart : Cart
  pub obstacles : List Obstacle
  pub neighbours : List NumberedLine

abbrev pub parts_made : Cart → ℕ → List Obstacle → ℕ → List NumberedLine → SceneParts
parts_made c n os m ls = record { cart = c; obstacles = os; neighbours = ls }

abbrev pub parts_in : Version → List ℕ → Got SceneParts
parts_in v s = record_with parts_made v s

abbrev pub line_of : NumberedLine → Line
line_of l = l.line

abbrev pub number_of : NumberedLine → ℕ
number_of l = l.number

pub record Numbered : Type 0 where
  pub scene : Scene
  pub numbers : List ℕ

unfoldable pub blank_words : List ℕ
blank_words = replicate most_neighbours 0

abbrev pub scene_made : Cart → ℕ → List Obstacle → ℕ → List NumberedLine → Numbered
scene_made c n os m ls = record { scene = scene_of c n os m (map line_of ls); numbers = sets blank_words 0 (map number_of ls) }

-- "The reader takes both"
unfoldable pub scene_in : List ℕ → Got Numbered
scene_in s = then (announced longest_either s) λ u a. then (either_version s a) λ v b. behind_version scene_made v s b

abbrev pub scene_in_version : Version → List ℕ → Got Numbered
scene_in_version v s = record_with scene_made v s

-- what the code hands over: the scene and its numbers, or the refusal
abbrev pub numbered_as : Got Numbered → Result NumberedScene Refusal
numbered_as (refused r) = Err (refusal_of r)
numbered_as (got x at) = Ok (record { scene = x.scene; numbers = x.numbers })

-- ---- as the code stores them: lines and numbers from the index i on

pub record Rows : Type 0 where
  pub lines : List Float
  pub numbers : List ℕ

abbrev pub rows : List Float → List ℕ → Rows
rows xs ns = record { lines = xs; numbers = ns }

abbrev pub rows_with : Rows → ℕ → List NumberedLine → Rows
rows_with r i ls = rows (sets r.lines (4 * i) (each four_of (map line_of ls))) (sets r.numbers i (map number_of ls))

abbrev pub blank_rows : Rows
blank_rows = rows blank_numbers blank_words

unfoldable pub stored_rows : Rows → ℕ → Got (List NumberedLine) → Got Rows
stored_rows r i (refused n) = refused n
stored_rows r i (got ls at) = got (rows_with r i ls) at
