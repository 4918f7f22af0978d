-- What is known of geometries that suit.
use Rattle.std.proofs.Common.{◌≡◌, ℕ, ◌+◌, ◌*◌, ◌-◌, ◌/◌, ◌<◌, ◌≤◌, List, arith, inl, inr, le_refl, mul-le-mul_right, refl, subst, sym, true≢false}
use Rattle.std.specs.Prelude.{◌⊎◌}
use Rattle.std.specs.Int.{div_ceil}
use Rattle.std.proofs.Math.Nat.{le-div_iff_mul-le, mul-le-mul_left}
use Rattle.std.proofs.lemmas.Grind.{div_ceil_times}
use Rattle.cs_frame.specs.Geometries.{IsGeometry, IsIdentity, file_format, file_pages, section_size, section_start, sections_needed}
use Rattle.law_machine.specs.Format.{Format, Four, Two}
use Rattle.cs_options.specs.SureRooms.{Takes, chunk_count, full_extents, largest_shard, longest_chunk, put_extents, sure_room}
use Rattle.cs_options.specs.Wishes.{Holds, IsEnough, OfAllThatSuit, Suits}
use Rattle.cs_options.proofs.ExtentSteps.{either, full_grows, least_used, put_grows}

-- a section of so many extents at most is enough if there are so many sections
sections_enough : (extents sections : ℕ) → 1 ≤ sections → extents ≤ 512 * sections → section_size extents sections ≤ 512
sections_enough extents sections some few = by_place (either (section_size extents sections) 512)
  where
    by_place : (section_size extents sections ≤ 512) ⊎ (512 < section_size extents sections) → section_size extents sections ≤ 512
    by_place (inl le) = le
    by_place (inr gt) = absurd (
        let up : 513 * sections ≤ extents + (sections - 1) =
        (le-div_iff_mul-le {k = sections} {x = 513} {y = extents + (sections - 1)} (omega (arith, some))).0 (let le : 513 ≤ section_size extents sections = omega (arith, gt) in le) in
        omega (arith, up, few, some))

enough_sections : (extents sections : ℕ) → 1 ≤ sections → section_size extents sections ≤ 512 → extents ≤ 512 * sections
enough_sections extents sections some few = by_place (either extents (512 * sections))
  where
    by_place : (extents ≤ 512 * sections) ⊎ (512 * sections < extents) → extents ≤ 512 * sections
    by_place (inl le) = le
    by_place (inr gt) = absurd (
        let up : 513 ≤ section_size extents sections =
        (le-div_iff_mul-le {k = sections} {x = 513} {y = extents + (sections - 1)} (omega (arith, some))).1 (omega (arith, gt, some)) in
        omega (arith, up, few))

-- so many extents, of so many pages, in as few sections as may be, are a geometry
pub whole_geometry : (store : List ℕ) → IsIdentity store → (extents pages : ℕ) → 5 ≤ extents → extents ≤ 7680 → 2 ≤ pages → pages ≤ 65535
    → IsGeometry (file_format store extents pages (sections_needed extents)) extents pages (sections_needed extents)
whole_geometry store identity extents pages some most two few =
    let some_section : 1 ≤ sections_needed extents = omega (arith, some) in
    let each : section_size extents (sections_needed extents) ≤ 512 = sections_enough extents (sections_needed extents) some_section (omega arith) in
    let before : section_start extents (sections_needed extents) (sections_needed extents - 1) ≤ (sections_needed extents - 1) * 512 = mul-le-mul_left (sections_needed extents - 1) each in
    let counted : extents * pages ≤ 7680 * pages = mul-le-mul_right pages most in
    record {
      fits_format = (identity, omega (arith, counted, few, most));
      fewest_extents = some;
      most_extents = most;
      fewest_pages = two;
      most_pages = few;
      fewest_sections = some_section;
      most_sections = omega (arith, most);
      section_fits = each;
      none_empty = (let last : (sections_needed extents - 1) * 512 < extents = omega (arith, some) in omega (arith, before, last));
      fits_device = le_refl (file_pages extents pages (sections_needed extents));
    }

-- the extents of a geometry that suits have room, with as few sections as may be
pub record HasRoom (size extents pages : ℕ) : Type 0 where
  pub some : 5 ≤ extents
  pub most : extents ≤ 7680
  pub fits : file_pages extents pages (sections_needed extents) ≤ size / 4096

pub suiting_has_room : (size shard_size shards : ℕ) (format : Format) (extents pages sections : ℕ) → IsGeometry format extents pages sections
    → Suits size shard_size shards format extents pages sections → HasRoom size extents pages
suiting_has_room size shard_size shards Two extents pages sections geometry suits = absurd (true≢false (sym suits.0))
suiting_has_room size shard_size shards (Four store device) extents pages sections geometry suits =
    let enough : extents ≤ 512 * sections = enough_sections extents sections geometry.fewest_sections geometry.section_fits in record {
      some = geometry.fewest_extents;
      most = geometry.most_extents;
      fits = omega (arith, enough, geometry.fits_device, suits.1);
    }

-- the shard can be put, each shorter one too, and this one again
abbrev pub TakesTwo : (shard_size extents pages : ℕ) → Type 0
TakesTwo shard_size extents pages = (shard_size ≤ largest_shard extents pages) × Takes 2 shard_size extents pages

-- more extents take two shards too, and are sure to hold as much
pub more_take_two : (shard_size fewer more pages : ℕ) → fewer ≤ more → TakesTwo shard_size fewer pages → TakesTwo shard_size more pages
more_take_two shard_size fewer more pages le two =
    let up : put_extents fewer * (pages / longest_chunk shard_size pages) ≤ put_extents more * (pages / longest_chunk shard_size pages) =
    mul-le-mul_right (pages / longest_chunk shard_size pages) (put_grows fewer more le) in
    let longer : largest_shard fewer pages ≤ largest_shard more pages = mul-le-mul_right (4096 * pages - 75) (full_grows fewer more le) in
    (omega (arith, longer, two.0), omega (arith, up, two.1))

pub more_are_roomier : (shard_size fewer more pages : ℕ) → fewer ≤ more → sure_room shard_size fewer pages ≤ sure_room shard_size more pages
more_are_roomier shard_size fewer more pages le =
    let up : put_extents fewer * (pages + 1 - longest_chunk shard_size pages) ≤ put_extents more * (pages + 1 - longest_chunk shard_size pages) =
    mul-le-mul_right (pages + 1 - longest_chunk shard_size pages) (put_grows fewer more le) in omega (arith, up)

-- as many extents as there may be, of so many pages
module _ (size shard_size shards pages made : ℕ) (greatest : (n : ℕ) → n ≤ 7680 → file_pages n pages (sections_needed n) ≤ size / 4096 → n ≤ made) where
  suiting_at : (P : (extents pages : ℕ) → Type 0) → ((extents : ℕ) → 5 ≤ extents → extents ≤ made → TakesTwo shard_size extents pages → P extents pages)
      → OfAllThatSuit size shard_size shards (λ extents each. each ≡ pages → P extents each)
  suiting_at P at format extents each sections geometry suits same =
      let room = suiting_has_room size shard_size shards format extents each sections geometry suits in
      subst (λ (n : ℕ). P extents n) (sym same)
      (at extents room.some (greatest extents room.most (subst (λ (n : ℕ). file_pages extents n (sections_needed extents) ≤ size / 4096) same room.fits))
      (subst (λ (n : ℕ). TakesTwo shard_size extents n) same (suits.3, suits.4)))

  -- they are sure to hold the most
  pub made_roomiest : OfAllThatSuit size shard_size shards (λ extents each. each ≡ pages → sure_room shard_size extents each ≤ sure_room shard_size made pages)
  made_roomiest = suiting_at (λ extents each. sure_room shard_size extents each ≤ sure_room shard_size made pages)
      (λ extents some le two. more_are_roomier shard_size extents made pages le)

  -- if they don't take two shards, none suits
  pub made_takes_none : (TakesTwo shard_size made pages → ⊥) → OfAllThatSuit size shard_size shards (λ extents each. each ≡ pages → ⊥)
  made_takes_none none = suiting_at (λ extents each. ⊥) (λ extents some le two. none (more_take_two shard_size extents made pages le two))

  -- if so many extents are no geometry, none suits
  pub made_is_none : (5 ≤ made → ⊥) → OfAllThatSuit size shard_size shards (λ extents each. each ≡ pages → ⊥)
  made_is_none none = suiting_at (λ extents each. ⊥) (λ extents some le two. none (omega (arith, some, le)))

-- the fewest extents that hold a shard are enough, and no fewer
full_holds : (shard_size pages full : ℕ) → 2 ≤ pages → full ≡ div_ceil shard_size (4096 * pages - 75) → (extents : ℕ) → full ≤ full_extents extents
    → shard_size ≤ largest_shard extents pages
full_holds shard_size pages full two full_is extents le =
    let all : shard_size ≤ div_ceil shard_size (4096 * pages - 75) * (4096 * pages - 75) =
    (div_ceil_times shard_size (4096 * pages - 75) (omega (arith, two))).0 in
    let up : div_ceil shard_size (4096 * pages - 75) * (4096 * pages - 75) ≤ full_extents extents * (4096 * pages - 75) =
    mul-le-mul_right (4096 * pages - 75) (let same : div_ceil shard_size (4096 * pages - 75) ≤ full_extents extents = omega (arith, full_is, le) in same) in
    omega (arith, all, up)

full_least : (shard_size pages full : ℕ) → 2 ≤ pages → full ≡ div_ceil shard_size (4096 * pages - 75) → (extents : ℕ)
    → shard_size ≤ largest_shard extents pages → full ≤ full_extents extents
full_least shard_size pages full two full_is extents held =
    omega (arith, full_is, least_used shard_size (4096 * pages - 75) (omega (arith, two)) (full_extents extents) held)

-- the fewest extents that take the shard, and no more than 20, in one section
module _ (shard_size shards pages chunks longest full few : ℕ) (two_pages : 2 ≤ pages) (chunks_is : chunks ≡ chunk_count shard_size pages)
    (longest_is : longest ≡ longest_chunk shard_size pages) (full_is : full ≡ div_ceil shard_size (4096 * pages - 75)) (bounds : (5 ≤ few) × (few ≤ 20)) where
  -- they suit in a file as large as they need
  pub few_suit : Holds shard_size shards pages → 2 * chunks ≤ put_extents few * (pages / longest) → full ≤ full_extents few
      → IsEnough shard_size shards (4096 * (few * pages + 4))
  few_suit holds two held store identity =
      let one : sections_needed few ≡ 1 = omega (arith, bounds) in (
        few,
        pages,
        1,
        subst (λ (n : ℕ). IsGeometry (file_format store few pages n) few pages n) one
            (whole_geometry store identity few pages bounds.0 (omega (arith, bounds)) holds.0 holds.1),
        (refl, omega arith, holds, full_holds shard_size pages full two_pages full_is few held, rw (← chunks_is, ← longest_is) two),
      )

  -- on fewer pages none suits
  pub fewer_suit_none : ((n : ℕ) → 5 ≤ n → 2 * chunks ≤ put_extents n * (pages / longest) → full ≤ full_extents n → few ≤ n)
      → (size : ℕ) → size < 4096 * (few * pages + 4) → OfAllThatSuit size shard_size shards (λ extents each. each ≡ pages → ⊥)
  fewer_suit_none least size below format extents each sections geometry suits same =
      let room = suiting_has_room size shard_size shards format extents each sections geometry suits in
      let takes : TakesTwo shard_size extents pages = subst (λ (n : ℕ). TakesTwo shard_size extents n) same (suits.3, suits.4) in
      let two : 2 * chunks ≤ put_extents extents * (pages / longest) = rw (chunks_is, longest_is) takes.1 in
      let le : few ≤ extents = least extents room.some two (full_least shard_size pages full two_pages full_is extents takes.0) in
      let up : few * pages ≤ extents * pages = mul-le-mul_right pages le in
      let fits : file_pages extents pages (sections_needed extents) ≤ size / 4096 =
      subst (λ (n : ℕ). file_pages extents n (sections_needed extents) ≤ size / 4096) same room.fits in
      omega (arith, up, fits, below, room.some)
