-- How the command `scrub` ends, and what it prints.
use Rattle.std.specs.Prelude.{◌≡◌, ◌≢◌, ◌⊎◌, ◌+◌, ◌-◌, ◌^◌, ◌∷◌, ◌++◌, ℕ, List, [], Option, codes, decimal, flat_map, length, min}
use Rattle.std.specs.Io.KnownBytes.{Appends}
use Rattle.cs_refusal.specs.declared.refusals.Refusal.{Refusal}
use Rattle.cs_refusal.specs.declared.refusals.Refusal.TheVariants.{OutOfMemory}
use Rattle.cs_refusal.specs.Refusals.{name_of, number_of}
use Rattle.cs_frame.specs.declared.identifiers.ShardId.{ShardId}
use Rattle.cs_frame.specs.declared.locators.Locator.{Locator}
use Rattle.cs_inspect.specs.Scrubs.{AreCaused, device_faults}
use Rattle.cs_inspect.specs.Failures.{RisesBy}
use Rattle.cs_inspect.specs.declared.scrubs.Damage.{Damage}
use Rattle.cs_inspect.specs.declared.scrubs.Damage.TheVariants as damage
use Rattle.cs_inspect.specs.declared.scrubs.Scrubbed.{Scrubbed}
use Rattle.cs_advice.specs.Outputs.{before_id, id_text, quote, refusal_text}
use Rattle.cs_tools.specs.Pages.{AreLeftWhole, left_count, pages_text}
use Rattle.cs_advice.specs.Members.{member}
use Rattle.cs_advice.specs.declared.outcomes.Outcome.{Outcome}
use Rattle.cs_advice.specs.declared.outcomes.Outcome.TheVariants.{Absent, Damaged, Done, Failed, MayBeLost, NoStore, Refused, Unopened, Unread}
use Rattle.cs_advice.specs.declared.outputs.Style.{Style}
use Rattle.cs_advice.specs.declared.outputs.Style.TheVariants.{Json, Text}
use Rattle.cs_tools.specs.declared.pages.FoundPages.{FoundPages}

-- ---- what is printed

-- of the line of a chunk, what stands before its place: its shard, and its number among the shard's chunks
abbrev pub chunk_text : Style → ShardId → (chunk : ℕ) → List ℕ
chunk_text Text id chunk = codes "shard " ++ id_text id ++ (codes " chunk " ++ decimal chunk)
chunk_text Json id chunk = before_id ++ id_text id ++ (quote ∷ 44 ∷ member (codes "chunk") ++ decimal chunk ++ 44 ∷ [])

-- of the line of a run, what stands before its place
abbrev pub run_text : Style → List ℕ
run_text Text = codes "run"
run_text Json = 123 ∷ []

-- where a frame begins, and why it can't be read
abbrev pub place_text : Style → Locator → Refusal → List ℕ
place_text Text place r = (codes " at extent " ++ decimal place.extent ++ (codes " page " ++ decimal place.page ++ codes " ")) ++ refusal_text r ++ 10 ∷ []
place_text Json place r =
    member (codes "extent") ++ decimal place.extent ++ (44 ∷ member (codes "page") ++ decimal place.page
    ++ (44 ∷ member (codes "refused") ++ decimal (number_of r) ++ (44 ∷ member (codes "name") ++ quote ∷ name_of r ++ quote ∷ 125 ∷ 10 ∷ [])))

-- the line of a frame that can't be read
abbrev pub damage_line : Style → Damage → List ℕ
damage_line style (damage.Chunk id chunk place r) = chunk_text style id chunk ++ place_text style place r
damage_line style (damage.Run place r) = run_text style ++ place_text style place r

-- the line of how many chunks and runs were read, and how many pages and frames are damaged
abbrev pub read_line : Style → (chunks runs damaged : ℕ) → List ℕ
read_line Text chunks runs damaged = codes "read " ++ decimal chunks ++ (codes " chunks and " ++ decimal runs ++ (codes " runs, " ++ decimal damaged ++ codes " damaged\n"))
read_line Json chunks runs damaged =
    123 ∷ member (codes "chunks") ++ decimal chunks ++ (44 ∷ member (codes "runs") ++ decimal runs ++ (44 ∷ member (codes "damaged") ++ decimal damaged ++ 125 ∷ 10 ∷ []))

-- those of what was found, with so many pages that are left damaged: at most the greatest number of 64 bits is told
abbrev pub found_text : Style → Scrubbed → (left : ℕ) → List ℕ
found_text style found left = flat_map (damage_line style) found.damages.items ++ read_line style found.chunks found.runs (min (length found.damages.items + left) (2 ^ 64 - 1))

-- all that a scrub prints: the pages first, and then what was found
abbrev pub scrub_text : Style → FoundPages → Scrubbed → List ℕ
scrub_text style pages found = pages_text style pages ++ found_text style found (left_count pages)

-- ---- how it ends

-- All that the index names was gone through and printed, with these counts of the disk's failures before and after.
-- Nothing is named that can't be read, or something is, with 1 only where that count rose or stood at its end, and of
-- no more frames than it rose by. Or memory ran out, or the writer failed. Pages that the store has twice and that are
-- left damaged are damages too, and so are the pages on which a section is lost.
abbrev pub Scrubs : (IsFound : Scrubbed → Type 0) → FoundPages → Style → (failed failed_then : ℕ) → (before after : Option (List ℕ)) → Outcome → Type 0
Scrubs IsFound pages style failed failed_then before after Done = (found : Scrubbed) × IsFound found × (found.damages.items ≡ []) × AreLeftWhole pages × Appends before after (scrub_text style pages found)
Scrubs IsFound pages style failed failed_then before after Damaged = (found : Scrubbed) × IsFound found × AreCaused failed failed_then found.damages.items
    × RisesBy (device_faults found.damages.items) failed failed_then × ((found.damages.items ≢ []) ⊎ (¬ AreLeftWhole pages)) × Appends before after (scrub_text style pages found)
Scrubs IsFound pages style failed failed_then before after (Refused r) = r ≡ OutOfMemory
Scrubs IsFound pages style failed failed_then before after Failed = Unit {0}
Scrubs IsFound pages style failed failed_then before after Absent = ⊥
Scrubs IsFound pages style failed failed_then before after (NoStore r) = ⊥
Scrubs IsFound pages style failed failed_then before after (Unopened f) = ⊥
Scrubs IsFound pages style failed failed_then before after MayBeLost = ⊥
Scrubs IsFound pages style failed failed_then before after (Unread r) = ⊥
