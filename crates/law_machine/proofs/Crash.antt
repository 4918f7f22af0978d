-- What a crash leaves of a sound state, whatever it makes of the pages of frames that are being written.
use Rattle.std.proofs.Common.{◌≡◌, ◌↔◌, inr, ℕ, ◌+◌, ◌≤◌, Bool, List, le_refl, le_trans, le_of_eq, refl, sym, ◌∙◌, subst, arith}
use Rattle.law_machine.specs.Cut.{Cut}
use Rattle.law_machine.specs.Device.{IsShape, Page, Shape}
use Rattle.law_machine.specs.Element.{Map, Root, roots_of}
use Rattle.law_machine.specs.Formats.{Formats}
use Rattle.law_machine.specs.Frames.{IsFormat}
use Rattle.law_machine.specs.Lists.{◌∈◌}
use Rattle.law_machine.specs.Recovery.{RecoversBut}
use Rattle.law_machine.specs.Sound.{GivesFirst, LeavesPrefix, Sound, crashed}
use Rattle.law_machine.specs.State.{State, map_after}
use Rattle.law_machine.specs.Torn.{LeavesPrefixTorn, TornFrom}
use Rattle.law_machine.proofs.Whole.{whole_map, whole_recovers}
use Rattle.law_machine.proofs.Images.{recovers_alike}
use Rattle.law_machine.proofs.Rounds.{Between, kept_image}
use Rattle.law_machine.proofs.Torn.{alike}

module _ (S : Shape) (F : Formats) (shape : IsShape S) (format : IsFormat S F) (s : State) (sound : Sound S F s) where
  pub leaves_torn : (mask : List Bool) → LeavesPrefixTorn S F s mask
  leaves_torn mask =
      let between : Between S F shape s.opened s.world sound.safe s.world.persistent = record {
        low = record { writes = λ n has. has; superblocks = λ j. le_refl _; root = le_refl _ };
        high = sound.safe.within;
        exact = sound.safe.exact;
      } in
      let kept = kept_image S F shape s.opened s.world sound.safe s.issued s.world.persistent sound.issued between mask in
      let X : Cut = kept.0 in
      let r : Root = kept.1.exact.root.0 in
      let is : r ∈ roots_of s.world.elements = kept.1.exact.root.1 in
      let map_is = sound.maps r is in (
        map_is.0,
        λ img torn.
            let whole : RecoversBut S F (λ a b. s.opening) img r.commands r.map = recovers_alike S F shape format s.opened s.world
            X sound.safe kept.1.low kept.1.high kept.1.exact img (alike S F shape format s sound mask img torn X kept.1 kept.2) in
            let prefix : RecoversBut S F (λ a b. s.opening) img (s.count + map_is.0) (map_after s.start s.commands map_is.0) =
            subst (λ (n : ℕ). RecoversBut S F (λ a b. s.opening) img n (map_after s.start s.commands map_is.0)) map_is.2
            (subst (λ (m : Map). RecoversBut S F (λ a b. s.opening) img r.commands m) map_is.3 whole) in (
              map_is.1,
              (λ f front. let last : front.0.commands ≤ r.commands = sound.safe.counts front.0 r front.1 is
                  (le_trans (le_of_eq front.2) (le_trans kept.1.low.root (le_of_eq (sym kept.1.exact.root.2)))) in
                  let fc : front.0.commands ≡ s.count + f = front.3 in let rc : r.commands ≡ s.count + map_is.0 = map_is.2 in
                  omega arith),
              prefix,
              (λ undamaged. whole_recovers S F s.opening img (s.count + map_is.0)
                  (map_after s.start s.commands map_is.0) (whole_map s.start s.commands map_is.0 undamaged)
                  (λ on. (sound.filled on).thawed) prefix),
            ),
      )

  pub untorn : (mask : List Bool) → TornFrom S F s mask (crashed S F s mask)
  untorn mask p = inr refl

  -- an image has one number of commands
  one_count : (img : ℕ → Page) (n k : ℕ) → GivesFirst S F s img n → GivesFirst S F s img k → n ≡ k
  one_count img n k a b =
      let same : s.count + n ≡ s.count + k = (format.one_root a.2.version b.2.version _ _ _ _ a.2.root_fits b.2.root_fits
      (sym a.2.root ∙ b.2.root)).0 in omega arith

  moves : (a b : ℕ → Page) (k n : ℕ) → GivesFirst S F s a k → GivesFirst S F s b k → GivesFirst S F s a n → GivesFirst S F s b n
  moves a b k n one other given = subst (λ (i : ℕ). GivesFirst S F s b i) (one_count a k n one given) other

  pub same_prefix : (mask : List Bool) (img : ℕ → Page) (n : ℕ) → TornFrom S F s mask img
      → GivesFirst S F s img n ↔ GivesFirst S F s (crashed S F s mask) n
  same_prefix mask img n torn =
      let both = leaves_torn mask in
      let here = both.1 img torn in
      let whole = both.1 (crashed S F s mask) (untorn mask) in (
        moves img (crashed S F s mask) both.0 n here whole,
        moves (crashed S F s mask) img both.0 n whole here,
      )

pub leaves_prefix : (S : Shape) (F : Formats) → IsShape S → IsFormat S F → (s : State) → Sound S F s
    → (mask : List Bool) → LeavesPrefix S F s mask
leaves_prefix S F shape format s sound mask =
    let both = leaves_torn S F shape format s sound mask in
    (both.0, both.1 (crashed S F s mask) (untorn S F shape format s sound mask))
