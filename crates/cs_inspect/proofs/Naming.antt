-- What is named of frames, one after another.
use Rattle.std.proofs.Common.{◌≡◌, ◌≢◌, ◌∙◌, ◌⊎◌, inl, inr, ℕ, ◌+◌, ◌<◌, ◌≤◌, List, [], ◌∷◌, ◌++◌, length, map, take, get_or, Ok, Err, Result, append-nil, take_all, refl, sym, ap, subst, arith}
use Rattle.std.specs.Prelude.{IsOk}
use Rattle.std.proofs.lemmas.List.{map-append, take_more}
use Rattle.cs_chunk.specs.Reads.{IsCaused}
use Rattle.cs_refusal.specs.declared.refusals.Refusal.{Refusal}
use Rattle.cs_refusal.specs.declared.refusals.Refusal.TheVariants.{DeviceFault, OutOfMemory}
use Rattle.cs_disk.specs.Disk.{Rises}
use Rattle.cs_extent.specs.State.{State as ExtentsState}
use Rattle.cs_frame.specs.declared.frames.FrameKind.{FrameKind}
use Rattle.cs_frame.specs.declared.locators.Locator.{Locator}
use Rattle.cs_inspect.specs.declared.scrubs.Damage.{Damage}
use Rattle.cs_inspect.specs.Scrubs.{AreCaused, AreNamed, Frame, IsIntact, IsNamed, IsPassed, IsWhyUnread, TellsFrame, frame_of, kind_in, place_in, refusal_in}

-- ---- lists of frames

-- the frames of the first so many, and of one more
pub framed_more : {A B : Type 0} (frame : B → Frame) (part : A → B) (xs : List A) (k : ℕ) (x : A) → k < length xs → x ≡ get_or xs k x
    → map frame (map part (take (k + 1) xs)) ≡ map frame (map part (take k xs)) ++ frame (part x) ∷ []
framed_more {A} {B} frame part xs k x lt at =
    ap (λ (ys : List A). map frame (map part ys)) (take_more xs k x lt ∙ ap (λ (y : A). take k xs ++ y ∷ []) (sym at))
    ∙ ap (λ (zs : List B). map frame zs) (map-append part (take k xs) (x ∷ []))
    ∙ map-append frame (map part (take k xs)) (part x ∷ [])

module _ (x : ExtentsState) (view : ℕ → List ℕ) where
  -- ---- what is named

  -- of some frames, and of some more
  pub both_named : (fs gs : List Frame) (ds es : List Damage) → AreNamed x view fs ds → AreNamed x view gs es → AreNamed x view (fs ++ gs) (ds ++ es)
  both_named [] gs ds es none more = subst (λ (xs : List Damage). AreNamed x view gs (xs ++ es)) (sym none) more
  both_named (f ∷ fs) gs ds es (inl (passed, rest)) more = inl (passed, both_named fs gs ds es rest more)
  both_named (f ∷ fs) gs ds es (inr (d, xs, e, named, rest)) more = inr (d, xs ++ es, ap (λ (ys : List Damage). ys ++ es) e, named, both_named fs gs xs es rest more)

  passed_on : (fs : List Frame) (f : Frame) (ds : List Damage) → AreNamed x view fs ds → IsPassed x view f → AreNamed x view (fs ++ f ∷ []) ds
  passed_on fs f ds named passed = subst (λ (xs : List Damage). AreNamed x view (fs ++ f ∷ []) xs) (append-nil ds) (both_named fs (f ∷ []) ds [] named (inl (passed, refl)))

  named_on : (fs : List Frame) (f : Frame) (ds : List Damage) (d : Damage) → AreNamed x view fs ds → IsNamed x view f d → AreNamed x view (fs ++ f ∷ []) (ds ++ d ∷ [])
  named_on fs f ds d named is = both_named fs (f ∷ []) ds (d ∷ []) named (inr (d, [], refl, is, refl))

  -- ---- what was told of one frame

  told_passed : {T : Type 0} (kind : FrameKind) (l : Locator) (read : Result T Refusal) → TellsFrame x view kind l read → IsOk read → IsIntact x view kind l
  told_passed kind l (Ok t) told ok = told
  told_passed kind l (Err r) told ok = absurd (cc ok)

  told_why : {T : Type 0} (kind : FrameKind) (l : Locator) (read : Result T Refusal) (r : Refusal) → TellsFrame x view kind l read → read ≡ Err r → r ≢ OutOfMemory → IsWhyUnread x view kind l r
  told_why kind l (Ok t) r told is not = absurd (cc is)
  told_why kind l (Err q) r told is not = go told
    where
      same : q ≡ r
      same = cc is

      go : (q ≡ OutOfMemory) ⊎ IsWhyUnread x view kind l q → IsWhyUnread x view kind l r
      go (inl memory) = absurd (not (sym same ∙ memory))
      go (inr why) = subst (λ (p : Refusal). IsWhyUnread x view kind l p) same why

  -- ---- a step of going through them

  module _ {A B T : Type 0} (frame : B → Frame) (part : A → B) (xs : List A) (k : ℕ) (a : A) (lt : k < length xs) (at : a ≡ get_or xs k a) (read : Result T Refusal)
      (told : TellsFrame x view (kind_in (frame (part a))) (place_in (frame (part a))) read) where
    pub step_passed : (ds es : List Damage) → AreNamed x view (map frame (map part (take k xs))) ds → IsOk read → es ≡ ds → AreNamed x view (map frame (map part (take (k + 1) xs))) es
    step_passed ds es named ok same =
        subst (λ (fs : List Frame). AreNamed x view fs es) (sym (framed_more frame part xs k a lt at))
        (subst (λ (ys : List Damage). AreNamed x view (map frame (map part (take k xs)) ++ frame (part a) ∷ []) ys) (sym same)
        (passed_on (map frame (map part (take k xs))) (frame (part a)) ds named (told_passed (kind_in (frame (part a))) (place_in (frame (part a))) read told ok)))

    pub step_named : (ds es : List Damage) (d : Damage) (r : Refusal) → AreNamed x view (map frame (map part (take k xs))) ds → read ≡ Err r → r ≢ OutOfMemory
        → frame_of d ≡ frame (part a) → refusal_in d ≡ r → es ≡ ds ++ d ∷ [] → AreNamed x view (map frame (map part (take (k + 1) xs))) es
    step_named ds es d r named is not of why pushed =
        subst (λ (fs : List Frame). AreNamed x view fs es) (sym (framed_more frame part xs k a lt at))
        (subst (λ (ys : List Damage). AreNamed x view (map frame (map part (take k xs)) ++ frame (part a) ∷ []) ys) (sym pushed)
        (named_on (map frame (map part (take k xs))) (frame (part a)) ds d named
        (of, subst (λ (q : Refusal). IsWhyUnread x view (kind_in (frame (part a))) (place_in (frame (part a))) q) (sym why) (told_why (kind_in (frame (part a))) (place_in (frame (part a))) read r told is not))))

  pub all_named : {A B : Type 0} (frame : B → Frame) (part : A → B) (xs : List A) (k : ℕ) (ds : List Damage) → length xs ≤ k → AreNamed x view (map frame (map part (take k xs))) ds → AreNamed x view (map frame (map part xs)) ds
  all_named {A} frame part xs k ds le named = subst (λ (ys : List A). AreNamed x view (map frame (map part ys)) ds) (take_all k xs le) named

-- ---- causes

pub rise_later : (before after then_too : ℕ) → after ≤ then_too → Rises before after → Rises before then_too
rise_later before after then_too le rise = omega (arith, le, rise)

pub caused_later : (before after then_too : ℕ) (ds : List Damage) → after ≤ then_too → AreCaused before after ds → AreCaused before then_too ds
caused_later before after then_too [] le caused = tt
caused_later before after then_too (d ∷ ds) le caused = ((λ e. rise_later before after then_too le (caused.0 e)), caused_later before after then_too ds le caused.1)

pub caused_both : (before after : ℕ) (ds es : List Damage) → AreCaused before after ds → AreCaused before after es → AreCaused before after (ds ++ es)
caused_both before after [] es one two = two
caused_both before after (d ∷ ds) es one two = (one.0, caused_both before after ds es one.1 two)

pub caused_earlier : (first before after : ℕ) (ds : List Damage) → first ≤ before → AreCaused before after ds → AreCaused first after ds
caused_earlier first before after [] le caused = tt
caused_earlier first before after (d ∷ ds) le caused = ((λ e. let rise : Rises before after = caused.0 e in omega (arith, le, rise)), caused_earlier first before after ds le caused.1)

-- one damage more, found by a read
pub caused_more : {T : Type 0} (first before after : ℕ) (read : Result T Refusal) (ds es : List Damage) (d : Damage) (r : Refusal) → first ≤ before → AreCaused first before ds → IsCaused before after read → read ≡ Err r
    → refusal_in d ≡ r → es ≡ ds ++ d ∷ [] → AreCaused first after es
caused_more first before after read ds es d r le caused one is why pushed =
    subst (λ (xs : List Damage). AreCaused first after xs) (sym pushed)
    (caused_both first after ds (d ∷ []) (caused_later first before after ds one.later caused)
    ((λ e. let rise : Rises before after = one.failed (failed e) in omega (arith, le, rise)), tt))
  where
    failed : refusal_in d ≡ DeviceFault → read ≡ Err DeviceFault
    failed e = is ∙ ap (λ (q : Refusal). Err q) (sym why ∙ e)

-- none more
pub caused_still : (first before after : ℕ) (ds es : List Damage) → before ≤ after → AreCaused first before ds → es ≡ ds → AreCaused first after es
caused_still first before after ds es le caused same = subst (λ (xs : List Damage). AreCaused first after xs) (sym same) (caused_later first before after ds le caused)
