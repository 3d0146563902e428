-- Small logs and their indexes, computed: builds of the readings' examples, each refusal and its order, the limit 4 at a small
-- one (02, T-10). Assumes nothing.
use Prim.Native.Nat.{ℕ}
use mathlib.Core.Path.{◌≡◌, refl}
use mathlib.Core.List.{List, [], ◌∷◌, ◌++◌}
use lib.ListN.{take, replicate}
use Rattle.words.specs.Words.{word_bytes}
use Rattle.fields.specs.Bytes.{each}
use Rattle.answer_logs.proofs.Worked.{computed as splitting, refused_scene}
use Rattle.answer_logs.specs.Parts.{waits, found_whole, wholes_from}
use Rattle.log_walks.specs.Figures.{sizes, is_fallback, fallbacks}
use Rattle.log_walks.specs.Parts.{records_of, wholes_of}
use Rattle.std.specs.Prelude.{Ok, Err}
use Rattle.index_building.specs.Indexes.{new_entry, entry_with, entry_of, entries, head, start_of, index_of, standing, laid_over, put_over}
use Rattle.index_building.specs.Builds.{built_up_to, built_over, extent, at_start, with_record, completed, extent_fault, part_built, part_over, end_fault, end_up_to, end_over}
use Rattle.index_building.specs.Stores.{store_fault, stored_over}

-- an outcome 5, and a scene refused with 6
unfoldable pub short : List ℕ
short = 0 ∷ 16 ∷ 1 ∷ 5 ∷ 0 ∷ 0 ∷ 0 ∷ 0 ∷ 0 ∷ 0 ∷ 0 ∷ 0 ∷ 255 ∷ 255 ∷ 0 ∷ 0 ∷ 0 ∷ 1 ∷ 0 ∷ 2 ∷ 1 ∷ 134 ∷ []

-- that refusal, 64 times
unfoldable pub long : List ℕ
long = each (λ (n : ℕ). refused_scene) (replicate 64 0)

-- the indexes of no record, of the short log and of the long one
unfoldable pub empty_index : List ℕ
empty_index = 0 ∷ 0 ∷ 0 ∷ 17 ∷ 1 ∷ 0 ∷ 0 ∷ 0 ∷ 0 ∷ 0 ∷ 0 ∷ 0 ∷ 0 ∷ 0 ∷ 0 ∷ 0 ∷ 0 ∷ 0 ∷ 0 ∷ 0 ∷ 0 ∷ []

unfoldable pub short_index : List ℕ
short_index = 0 ∷ 0 ∷ 0 ∷ 17 ∷ 1 ∷ 0 ∷ 0 ∷ 0 ∷ 22 ∷ 0 ∷ 0 ∷ 0 ∷ 2 ∷ 0 ∷ 0 ∷ 0 ∷ 0 ∷ 0 ∷ 0 ∷ 0 ∷ 0 ∷ []

unfoldable pub long_index : List ℕ
long_index = 0 ∷ 0 ∷ 0 ∷ 25 ∷ 1 ∷ 0 ∷ 0 ∷ 1 ∷ 0 ∷ 0 ∷ 0 ∷ 0 ∷ 64 ∷ 0 ∷ 0 ∷ 0 ∷ 0 ∷ 0 ∷ 0 ∷ 0 ∷ 0 ∷ 0 ∷ 0 ∷ 1 ∷ 0 ∷ 0 ∷ 0
    ∷ 0 ∷ 0 ∷ []

-- what computing needs
unfoldable pub computed : Unit {0}
unfolding splitting word_bytes each records_of sizes is_fallback fallbacks new_entry entry_with entry_of entries head index_of
    laid_over put_over built_up_to built_over with_record completed extent_fault part_over end_fault end_up_to end_over start_of
    wholes_of wholes_from found_whole waits store_fault stored_over short long empty_index short_index long_index
computed = tt

-- ---- builds

-- what lies behind the index stays
empty-built : built_over [] (replicate 22 9) ≡ standing (Ok 21) (empty_index ++ (9 ∷ []))
unfolding computed
empty-built = refl

short-built : built_over short (replicate 21 9) ≡ standing (Ok 21) short_index
unfolding computed
short-built = refl

long-built : built_over long (replicate 29 9) ≡ standing (Ok 29) long_index
unfolding computed
long-built = refl

no_room : built_over short (replicate 20 9) ≡ standing (Err 10) (replicate 20 9)
unfolding computed
no_room = refl

-- a bad record comes before the buffer
bad-record : built_over (refused_scene ++ (255 ∷ [])) [] ≡ standing (Err 2) []
unfolding computed
bad-record = refl

-- a bad record comes before the limit, and the limit before the buffer
bad-version : built_up_to 1 (0 ∷ 2 ∷ 2 ∷ 134 ∷ []) [] ≡ standing (Err 1) []
unfolding computed
bad-version = refl

over-limit : built_up_to 21 short [] ≡ standing (Err 4) []
unfolding computed
over-limit = refl

-- ---- builds in parts

-- the short log in two parts, cut in its second record; then its end
first_part : part_over (take 20 short) at_start [] ≡ standing (Ok (part_built 18 0 (extent 18 1 1))) []
unfolding computed
first_part = refl

second-part : part_over (0 ∷ 2 ∷ 1 ∷ 134 ∷ []) (extent 18 1 1) [] ≡ standing (Ok (part_built 4 0 (extent 22 2 1))) []
unfolding computed
second-part = refl

the_end : end_over [] (extent 22 2 1) (replicate 22 9) ≡ standing (Ok 21) (short_index ++ (9 ∷ []))
unfolding computed
the_end = refl

-- the 64th record completes an entry, which has its room or is refused
entry-completed : part_over refused_scene (extent 252 63 0) (replicate 9 9)
    ≡ standing (Ok (part_built 4 8 (extent 256 64 0))) (0 ∷ 0 ∷ 1 ∷ 0 ∷ 0 ∷ 0 ∷ 0 ∷ 0 ∷ 9 ∷ [])
unfolding computed
entry-completed = refl

no-room-for-entry : part_over refused_scene (extent 252 63 0) (replicate 7 9) ≡ standing (Err 10) (replicate 7 9)
unfolding computed
no-room-for-entry = refl

bad-in-part : part_over (0 ∷ 2 ∷ 2 ∷ 134 ∷ []) at_start [] ≡ standing (Err 1) []
unfolding computed
bad-in-part = refl

-- bytes that are left come before the limit, and the limit before the buffer
cut-at-end : end_up_to 21 1 (extent 22 2 1) [] ≡ standing (Err 2) []
unfolding computed
cut-at-end = refl

end-over-limit : end_up_to 21 0 (extent 22 2 1) [] ≡ standing (Err 4) []
unfolding computed
end-over-limit = refl

-- ---- new numbers stored

-- the limit is told before the buffer, which holds nothing
log-too-long : stored_over [] 4294967296 1 0 ≡ standing (Err 4) []
unfolding computed
log-too-long = refl

too_many : stored_over [] 4294967295 4294967296 0 ≡ standing (Err 4) []
unfolding computed
too_many = refl

numbers-stored : stored_over (empty_index ++ (9 ∷ [])) 22 2 1 ≡ standing (Ok 21) (short_index ++ (9 ∷ []))
unfolding computed
numbers-stored = refl
