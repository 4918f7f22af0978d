-- How many extents a device has room for, and how many it takes to put a shard twice.
use Rattle.std.proofs.Common.{◌≡◌, ℕ, suc, ◌+◌, ◌*◌, ◌-◌, ◌/◌, ◌%◌, ◌<◌, ◌≤◌, Bool, if◌then◌else◌, ap, arith, inl, inr, mul-le-mul_right, nat_le, subst}
use Rattle.std.specs.Prelude.{◌⊎◌, max, min}
use Rattle.std.specs.Int.{div_ceil}
use Rattle.std.proofs.Math.Nat.{div-mul-le_self, le-div_iff_mul-le}
use Rattle.std.proofs.lemmas.Bool.{cases_Bool}
use Rattle.std.proofs.lemmas.Bool.Decides.{nat_tests}
use Rattle.std.proofs.lemmas.Grind.{div_ceil_times}
use Rattle.cs_frame.specs.Geometries.{file_pages, sections_needed}
use Rattle.cs_options.specs.SureRooms.{full_extents, put_extents}

-- what is at most one number or above it
pub either : (a b : ℕ) → (a ≤ b) ⊎ (b < a)
either a b = grind arith

-- the extents that puts may use, by their number
pub few_put : (extents : ℕ) → extents ≤ 15 → put_extents extents ≡ extents - 3
few_put extents few = elim (cases_Bool (nat_le 16 extents)) [
  | inl on ↦ absurd (let many : 16 ≤ extents = grind (arith, nat_tests, on) in omega (arith, many, few))
  | inr off ↦ rw off (omega arith)
]

pub many_put : (extents : ℕ) → 16 ≤ extents → put_extents extents ≡ extents - 4
many_put extents many = elim (cases_Bool (nat_le 16 extents)) [
  | inl on ↦ rw on (omega arith)
  | inr off ↦ absurd (let few : extents < 16 = grind (arith, nat_tests, off) in omega (arith, few, many))
]

-- of more extents puts may use more
pub put_grows : (fewer more : ℕ) → fewer ≤ more → put_extents fewer ≤ put_extents more
put_grows fewer more le = by_size (either fewer 15) (either more 15)
  where
    by_size : (fewer ≤ 15) ⊎ (15 < fewer) → (more ≤ 15) ⊎ (15 < more) → put_extents fewer ≤ put_extents more
    by_size (inl a) (inl b) = omega (arith, few_put fewer a, few_put more b, le)
    by_size (inl a) (inr b) = omega (arith, few_put fewer a, many_put more b, le)
    by_size (inr a) (inl b) = omega (arith, a, b, le)
    by_size (inr a) (inr b) = omega (arith, many_put fewer a, many_put more b, le)

-- how many extents hold a shard, by how many puts may use
pub full_enough : (full extents : ℕ) → full ≤ 8 → min (2 * full) 8 ≤ put_extents extents → full ≤ full_extents extents
full_enough full extents eight more = elim (cases_Bool (nat_le 8 (put_extents extents))) [
  | inl on ↦ rw on eight
  | inr off ↦ rw off (let low : put_extents extents < 8 = grind (arith, nat_tests, off) in omega (arith, low, more))
]

pub enough_full : (full extents : ℕ) → full ≤ full_extents extents → min (2 * full) 8 ≤ put_extents extents
enough_full full extents held = elim (cases_Bool (nat_le 8 (put_extents extents))) [
  | inl on ↦ (let many : 8 ≤ put_extents extents = grind (arith, nat_tests, on) in omega (arith, many))
  | inr off ↦ (let le : full ≤ put_extents extents / 2 = subst (λ (t : Bool). full ≤ (if t then 8 else put_extents extents / 2)) off held in omega (arith, le))
]

pub full_few : (extents : ℕ) → full_extents extents ≤ 8
full_few extents = elim (cases_Bool (nat_le 8 (put_extents extents))) [
  | inl on ↦ rw on (omega arith)
  | inr off ↦ rw off (let low : put_extents extents < 8 = grind (arith, nat_tests, off) in omega (arith, low))
]

pub full_grows : (fewer more : ℕ) → fewer ≤ more → full_extents fewer ≤ full_extents more
full_grows fewer more le =
    full_enough (full_extents fewer) more (full_few fewer) (omega (arith, enough_full (full_extents fewer) fewer (omega arith), put_grows fewer more le))

-- so many extents take so many chunks, if each takes some
module _ (chunks each : ℕ) (some : 1 ≤ each) where
  enough_used : (n : ℕ) → div_ceil chunks each ≤ n → chunks ≤ n * each
  enough_used n le =
      let all : chunks ≤ div_ceil chunks each * each = (div_ceil_times chunks each some).0 in
      let up : div_ceil chunks each * each ≤ n * each = mul-le-mul_right each le in omega (arith, all, up)

  pub least_used : (n : ℕ) → chunks ≤ n * each → div_ceil chunks each ≤ n
  least_used n all = by_place (either (div_ceil chunks each) n)
    where
      by_place : (div_ceil chunks each ≤ n) ⊎ (n < div_ceil chunks each) → div_ceil chunks each ≤ n
      by_place (inl le) = le
      by_place (inr gt) = absurd (
          let below : div_ceil chunks each * each < chunks + each = (div_ceil_times chunks each some).1 in
          let up : suc n * each ≤ div_ceil chunks each * each = mul-le-mul_right each (let le : suc n ≤ div_ceil chunks each = omega (arith, gt) in le) in
          let next : suc n * each ≡ each + n * each = omega arith in omega (arith, below, up, next, all))

  -- up to 12 extents for puts take three more, and else four
  pub take_enough : (full used extents : ℕ) → used ≡ max (max (div_ceil chunks each) (min (2 * full) 8)) 2
      → ((used ≤ 12) × (extents ≡ used + 3)) ⊎ ((12 < used) × (extents ≡ used + 4)) → chunks ≤ put_extents extents * each
  take_enough full used extents used_is (inl (few, is)) =
      enough_used (put_extents extents) (omega (arith, used_is, few_put extents (omega (arith, few, is)), is))
  take_enough full used extents used_is (inr (many, is)) =
      enough_used (put_extents extents) (omega (arith, used_is, many_put extents (omega (arith, many, is)), is))

  pub hold_enough : (full used extents : ℕ) → full ≤ 8 → used ≡ max (max (div_ceil chunks each) (min (2 * full) 8)) 2
      → ((used ≤ 12) × (extents ≡ used + 3)) ⊎ ((12 < used) × (extents ≡ used + 4)) → full ≤ full_extents extents
  hold_enough full used extents eight used_is (inl (few, is)) =
      full_enough full extents eight (omega (arith, used_is, few_put extents (omega (arith, few, is)), is))
  hold_enough full used extents eight used_is (inr (many, is)) =
      full_enough full extents eight (omega (arith, used_is, many_put extents (omega (arith, many, is)), is))

  pub take_least : (full used extents n : ℕ) → used ≡ max (max (div_ceil chunks each) (min (2 * full) 8)) 2
      → ((used ≤ 12) × (extents ≡ used + 3)) ⊎ ((12 < used) × (extents ≡ used + 4)) → 5 ≤ n → chunks ≤ put_extents n * each → full ≤ full_extents n
      → extents ≤ n
  take_least full used extents n used_is is some_extents all held =
      let least : div_ceil chunks each ≤ put_extents n = least_used (put_extents n) all in
      let more : min (2 * full) 8 ≤ put_extents n = enough_full full n held in
      let two : 2 ≤ put_extents n = put_grows 5 n some_extents in
      by_size (either n 15) is (let le : used ≤ put_extents n = omega (arith, used_is, least, more, two) in le)
    where
      by_size : (n ≤ 15) ⊎ (15 < n) → ((used ≤ 12) × (extents ≡ used + 3)) ⊎ ((12 < used) × (extents ≡ used + 4)) → used ≤ put_extents n → extents ≤ n
      by_size (inl low) (inl a) le = omega (arith, few_put n low, a, le, some_extents)
      by_size (inl low) (inr a) le = absurd (omega (arith, few_put n low, a, le, some_extents))
      by_size (inr high) (inl a) le = omega (arith, high, a)
      by_size (inr high) (inr a) le = omega (arith, many_put n high, a, le)

-- The pages of a device after the first two, in stretches of 512 extents and the two pages of their section: so many
-- whole stretches, and so many extents of the rest.
module _ (device pages : ℕ) (some : 2 ≤ pages) where
  abbrev left : ℕ
  left = device - 2

  abbrev stretch : ℕ
  stretch = 512 * pages + 2

  abbrev whole : ℕ
  whole = left / stretch

  abbrev rest : ℕ
  rest = left % stretch

  abbrev more : ℕ
  more = (rest - 2) / pages

  parts : whole * stretch + rest ≡ left
  parts = omega arith

  rest_short : rest < stretch
  rest_short = omega arith

  more_pages : more * pages ≤ rest - 2
  more_pages = div-mul-le_self (rest - 2) pages

  most_more : (n : ℕ) → n * pages ≤ rest - 2 → n ≤ more
  most_more n le = (le-div_iff_mul-le {k = pages} {x = n} {y = rest - 2} (omega (arith, some))).1 le

  few_more : more ≤ 511
  few_more = by_place (either more 511)
    where
      by_place : (more ≤ 511) ⊎ (511 < more) → more ≤ 511
      by_place (inl le) = le
      by_place (inr gt) = absurd (
          let up : 512 * pages ≤ more * pages = mul-le-mul_right pages (let le : 512 ≤ more = omega (arith, gt) in le) in
          omega (arith, up, more_pages, rest_short))

  module _ (extents : ℕ) where
    abbrev stretches : ℕ
    stretches = extents / 512

    abbrev others : ℕ
    others = extents % 512

    -- the pages of the extents, by stretches
    all_pages : extents * pages ≡ 512 * (stretches * pages) + others * pages
    all_pages = let is : extents ≡ 512 * stretches + others = omega arith in
        let times : extents * pages ≡ (512 * stretches + others) * pages = ap (λ (n : ℕ). n * pages) is in omega (arith, times)

    other_pages : others * pages ≤ 511 * pages
    other_pages = mul-le-mul_right pages (let le : others ≤ 511 = omega arith in le)

    pub room_on : 1 ≤ extents → extents ≤ 512 * whole + more → file_pages extents pages (sections_needed extents) ≤ device
    room_on one few = by_place (either whole stretches)
      where
        by_place : (whole ≤ stretches) ⊎ (stretches < whole) → file_pages extents pages (sections_needed extents) ≤ device
        by_place (inl le) =
            let same : stretches ≡ whole = omega (arith, le, few, few_more) in
            let times : stretches * pages ≡ whole * pages = ap (λ (n : ℕ). n * pages) same in
            let up : others * pages ≤ more * pages = mul-le-mul_right pages (let le : others ≤ more = omega (arith, same, few) in le) in
            omega (arith, all_pages, times, up, more_pages, parts, same)
        by_place (inr lt) =
            let up : suc stretches * pages ≤ whole * pages = mul-le-mul_right pages (let le : suc stretches ≤ whole = omega (arith, lt) in le) in
            let next : suc stretches * pages ≡ pages + stretches * pages = omega arith in
            omega (arith, all_pages, other_pages, up, next, parts, lt)

    pub greatest_on : file_pages extents pages (sections_needed extents) ≤ device → extents ≤ 512 * whole + more
    greatest_on fits = by_place (either extents (512 * whole + more))
      where
        by_place : (extents ≤ 512 * whole + more) ⊎ (512 * whole + more < extents) → extents ≤ 512 * whole + more
        by_place (inl le) = le
        by_place (inr gt) = absurd (by_stretch (either stretches whole))
          where
            by_stretch : (stretches ≤ whole) ⊎ (whole < stretches) → ⊥
            by_stretch (inl le) =
                let same : stretches ≡ whole = omega (arith, le, gt) in
                let times : stretches * pages ≡ whole * pages = ap (λ (n : ℕ). n * pages) same in
                let few : others * pages ≤ rest - 2 = omega (arith, all_pages, times, parts, fits, same, gt) in
                let least : others ≤ more = most_more others few in
                omega (arith, same, gt, least)
            by_stretch (inr lt) =
                let up : suc whole * pages ≤ stretches * pages = mul-le-mul_right pages (let le : suc whole ≤ stretches = omega (arith, lt) in le) in
                let next : suc whole * pages ≡ pages + whole * pages = omega arith in
                omega (arith, all_pages, up, next, parts, rest_short, fits, lt)
