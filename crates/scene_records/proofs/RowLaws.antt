-- Lines with their numbers, read one behind the other and stored; and the fields of a record of either version. Assumes nothing.
use Prim.Native.Nat.{ℕ, suc, ◌+◌, ◌-◌, ◌*◌, ◌≤◌, ◌<◌}
use native.Mathlib.Omega.{arith}
use native.Mathlib.Numerals.{add-one}
use mathlib.Core.Path.{◌≡◌, refl, sym, ap}
use mathlib.Core.List.{List, [], ◌∷◌, ◌++◌, map}
use lib.ListN.{set}
use lib.Seq.{sets}
use lib.Ieee.{Float}
use Rattle.lines.specs.declared.Line.{Line}
use Rattle.lines.specs.Lines.{four_of}
use Rattle.fields.specs.Bytes.{each}
use Rattle.fields.specs.Got.{Got, refused, got, then, many}
use Rattle.fields.proofs.ChainLaws.{apart, got_same}
use Rattle.fields.proofs.StoreLaws.{sets-append}
use Rattle.scene_records.specs.declared.Version.{Version}
use Rattle.scene_records.specs.declared.Cart.{Cart}
use Rattle.scene_records.specs.Steps.{count, ended}
use Rattle.scene_records.specs.Parts.{cart, Obstacle, obstacles, neighbour, Walls, walls_with, stored_walls}
use Rattle.scene_records.specs.Records.{no_walls, scene_with}
use Rattle.scene_records.specs.Versions.{line_number, NumberedLine, numbered, numbered_line, numbered_lines, fields_with, line_of, Numbered, scene_made, Rows, rows, rows_with, blank_rows, stored_rows}

-- ---- stored rows

module _ (s : List ℕ) (v : Version) where
  rows_behind : (r : Rows) (i : ℕ) (a : NumberedLine) (g : Got (List NumberedLine))
      → stored_rows r i (then g λ l k. got (a ∷ l) k)
      ≡ stored_rows (rows (sets r.lines (4 * i) (four_of a.line)) (set r.numbers i a.number)) (i + 1) g
  unfolding stored_rows each
  rows_behind r i a (refused n) = refl
  rows_behind r i a (got l k) =
      let on : 4 * i + 4 ≡ 4 * (i + 1) = omega arith in
      let xs : sets r.lines (4 * i) (four_of a.line ++ each four_of (map line_of l))
      ≡ sets (sets r.lines (4 * i) (four_of a.line)) (4 * (i + 1)) (each four_of (map line_of l))
      = rw on at (sets-append r.lines (4 * i) (four_of a.line) (each four_of (map line_of l))) in
      rw (xs, add-one)

  pub rows-done : (r : Rows) (i n at : ℕ) → n ≤ i → got r at ≡ stored_rows r i (numbered_lines v s (n - i) at)
  unfolding stored_rows numbered_lines many each
  rows-done r i n at h = let e : n - i ≡ 0 = omega arith in rw e refl

  module _ (r : Rows) (i n at : ℕ) (h : i < n) where
    more : n - i ≡ suc (n - (i + 1))
    more = omega arith

    pub number-refused : (f : ℕ) → refused f ≡ line_number v s at → stored_rows r i (numbered_lines v s (n - i) at) ≡ refused f
    unfolding numbered_lines many numbered_line stored_rows
    number-refused f e = rw (more, ← e) refl

    module _ (k a : ℕ) (read : got k a ≡ line_number v s at) where
      pub row-refused : (f : ℕ) → refused f ≡ neighbour s a → stored_rows r i (numbered_lines v s (n - i) at) ≡ refused f
      unfolding numbered_lines many numbered_line stored_rows
      row-refused f e = rw (more, ← read, ← e) refl

      pub rows_next : (l : Line) (b : ℕ) (xs : List Float) → got l b ≡ neighbour s a → xs ≡ sets r.lines (4 * i) (four_of l)
          → stored_rows r i (numbered_lines v s (n - i) at)
          ≡ stored_rows (rows xs (set r.numbers i k)) (i + 1) (numbered_lines v s (n - (i + 1)) b)
      unfolding numbered_lines many numbered_line
      rows_next l b xs e put = rw (more, ← read, ← e, put) (rows_behind r i (numbered k l) (numbered_lines v s (n - (i + 1)) b))

-- ---- what was stored is what was read

-- the values, if they were read
abbrev values : {A : Type 0} → Got (List A) → List A
values (refused r) = []
values (got l at) = l

pub walls-got : (w x : Walls) (at : ℕ) (g : Got (List Obstacle)) → got x at ≡ stored_walls w 0 0 g → (g ≡ got (values g) at)
    × (x ≡ walls_with w 0 0 (values g))
unfolding stored_walls
walls-got w x at (refused r) e = apart r x at (sym e)
walls-got w x at (got os m) e = (ap (λ (k : ℕ). got os k) (sym (got_same e).1), (got_same e).0)

pub walls-fault : (w : Walls) (r : ℕ) (g : Got (List Obstacle)) → refused r ≡ stored_walls w 0 0 g → g ≡ refused r
unfolding stored_walls
walls-fault w r (refused n) e = ap refused (let z : n ≡ r = cc in z)
walls-fault w r (got os m) e = apart r (walls_with w 0 0 os) m e

pub rows-got : (w x : Rows) (at : ℕ) (g : Got (List NumberedLine)) → got x at ≡ stored_rows w 0 g → (g ≡ got (values g) at)
    × (x ≡ rows_with w 0 (values g))
unfolding stored_rows
rows-got w x at (refused r) e = apart r x at (sym e)
rows-got w x at (got ls m) e = (ap (λ (k : ℕ). got ls k) (sym (got_same e).1), (got_same e).0)

pub rows-fault : (w : Rows) (r : ℕ) (g : Got (List NumberedLine)) → refused r ≡ stored_rows w 0 g → g ≡ refused r
unfolding stored_rows
rows-fault w r (refused n) e = ap refused (let z : n ≡ r = cc in z)
rows-fault w r (got ls m) e = apart r (rows_with w 0 ls) m e

-- ---- the fields, one behind the other

abbrev handed : Cart → ℕ → Walls → ℕ → Rows → Numbered
handed x n w m r = record { scene = scene_with x n w m r.lines; numbers = r.numbers }

module _ (s : List ℕ) (v : Version) (at a b n : ℕ) (x : Cart) (read-cart : got x a ≡ cart s at) (read-n : got n b ≡ count 16 s a) where
  abbrev fields : Got Numbered
  fields = fields_with scene_made v s at

  pub walls-refuse : (f : ℕ) → refused f ≡ stored_walls no_walls 0 0 (obstacles s n 0 b) → fields ≡ refused f
  unfolding fields_with
  walls-refuse f e = rw (← read-cart, ← read-n, walls-fault no_walls f _ e) refl

  module _ (w : Walls) (c : ℕ) (read-walls : got w c ≡ stored_walls no_walls 0 0 (obstacles s n 0 b)) where
    abbrev seen : (obstacles s n 0 b ≡ got (values (obstacles s n 0 b)) c) × (w ≡ walls_with no_walls 0 0 (values (obstacles s n 0 b)))
    seen = walls-got no_walls w c _ read-walls

    pub count-refuses : (f : ℕ) → refused f ≡ count 64 s c → fields ≡ refused f
    unfolding fields_with
    count-refuses f e = rw (← read-cart, ← read-n, seen.0, ← e) refl

    module _ (m d : ℕ) (read-m : got m d ≡ count 64 s c) where
      pub rows-refuse : (f : ℕ) → refused f ≡ stored_rows blank_rows 0 (numbered_lines v s m d) → fields ≡ refused f
      unfolding fields_with
      rows-refuse f e = rw (← read-cart, ← read-n, seen.0, ← read-m, rows-fault blank_rows f _ e) refl

      module _ (r : Rows) (g : ℕ) (read-rows : got r g ≡ stored_rows blank_rows 0 (numbered_lines v s m d)) where
        abbrev known : (numbered_lines v s m d ≡ got (values (numbered_lines v s m d)) g) × (r ≡ rows_with blank_rows 0 (values (numbered_lines v s m d)))
        known = rows-got blank_rows r g _ read-rows

        pub end-refuses : (f : ℕ) → refused f ≡ ended s g → fields ≡ refused f
        unfolding fields_with
        end-refuses f e = rw (← read-cart, ← read-n, seen.0, ← read-m, known.0, ← e) refl

        pub fields-read : (h : ℕ) → got (tt {0}) h ≡ ended s g → got (handed x n w m r) h ≡ fields
        unfolding fields_with
        fields-read h e = rw (← read-cart, ← read-n, seen.0, ← read-m, known.0, ← e, seen.1, known.1) refl
