-- What stands in a message.
use Rattle.std.proofs.Common.{◌≡◌, ◌∙◌, ℕ, List, [], ◌∷◌, ◌++◌, append_assoc, ap, subst, sym}
use Rattle.std.specs.Prelude.{OnOk, Option, Result, Ok, Err, codes}
use Rattle.std.specs.Io.KnownBytes.{Appends}
use Rattle.cs_refusal.specs.Refusals.{name_of, number_of}
use Rattle.cs_refusal.specs.declared.refusals.Refusal.{Refusal}
use Rattle.cs_refusal.specs.declared.refusals.Refusal.TheVariants.{NotAStore}
use Rattle.cs_frame.specs.declared.identities.StoreId.{StoreId}
use Rattle.cs_disk.specs.declared.fault.SystemFault.{SystemFault}
use Rattle.cs_advice.specs.Advised.{advice_text, content_text, todo_members, todo_text, two_text}
use Rattle.cs_advice.specs.Outputs.{quote}
use Rattle.cs_advice.specs.Members.{BeginsWith, member}
use Rattle.cs_advice.specs.Tellings.{GrowsWith, head_text, members_of, reason_text, refused_text, rest_text, system_of, what_text}
use Rattle.cs_advice.specs.Texts.{meaning_text}
use Rattle.cs_advice.specs.declared.knowns.Content.{Content}
use Rattle.cs_advice.specs.declared.knowns.Content.TheVariants.{TwoStores}
use Rattle.cs_advice.specs.declared.knowns.Known.{Known}
use Rattle.cs_advice.specs.declared.outputs.Style.{Style}
use Rattle.cs_advice.specs.declared.outputs.Style.TheVariants.{Json, Text}
use Rattle.cs_advice.specs.declared.tellings.Reason.{Reason}
use Rattle.cs_advice.proofs.Appended.{appends_same}

-- a reason is told by what it has
pub told_by : (style : Style) (reason : Reason) (number : ℕ) (name text : List ℕ) (system : Option SystemFault) (advice members : List ℕ)
    → reason.number ≡ number → reason.name.now ≡ name → reason.text.now ≡ text → reason.system ≡ system → todo_text reason.advice ≡ advice → todo_members reason.advice ≡ members
    → reason_text style reason ≡ head_text style number name ++ (what_text text system ++ rest_text style advice members)
told_by style reason number name text system advice members numbers names texts systems advised named =
    ap (λ (n : ℕ). head_text style n reason.name.now ++ (what_text reason.text.now reason.system ++ rest_text style (todo_text reason.advice) (todo_members reason.advice))) numbers
    ∙ (ap (λ (l : List ℕ). head_text style number l ++ (what_text reason.text.now reason.system ++ rest_text style (todo_text reason.advice) (todo_members reason.advice))) names
    ∙ (ap (λ (l : List ℕ). head_text style number name ++ (what_text l reason.system ++ rest_text style (todo_text reason.advice) (todo_members reason.advice))) texts
    ∙ (ap (λ (s : Option SystemFault). head_text style number name ++ (what_text text s ++ rest_text style (todo_text reason.advice) (todo_members reason.advice))) systems
    ∙ (ap (λ (l : List ℕ). head_text style number name ++ (what_text text system ++ rest_text style l (todo_members reason.advice))) advised
    ∙ ap (λ (l : List ℕ). head_text style number name ++ (what_text text system ++ rest_text style advice l)) named))))

-- a message that is written begins so
pub head_first : {T E : Type 0} (r : Result T E) (a b : Option (List ℕ)) (head rest : List ℕ) → OnOk r (Appends a b (head ++ rest)) → OnOk r (BeginsWith a b head)
head_first (Ok x) a b head rest h = (rest, h)
head_first (Err e) a b head rest h = tt

-- an advice stands in it
inside : (head meaning before advice behind : List ℕ) → ((head ++ (meaning ++ before)) ++ advice) ++ behind ≡ head ++ (meaning ++ (before ++ (advice ++ behind)))
inside head meaning before advice behind =
    append_assoc (head ++ (meaning ++ before)) advice behind ∙ (append_assoc head (meaning ++ before) (advice ++ behind) ∙ ap (λ (l : List ℕ). head ++ l) (append_assoc meaning before (advice ++ behind)))

advice_in : (style : Style) (a b : Option (List ℕ)) (head meaning advice members : List ℕ) → Appends a b (head ++ (meaning ++ rest_text style advice members)) → GrowsWith a b advice
advice_in Text a b head meaning advice members h =
    (head ++ (meaning ++ 10 ∷ []), 10 ∷ [], appends_same a b (head ++ (meaning ++ ((10 ∷ []) ++ (advice ++ 10 ∷ [])))) (((head ++ (meaning ++ 10 ∷ [])) ++ advice) ++ 10 ∷ []) (sym (inside head meaning (10 ∷ []) advice (10 ∷ []))) h)
advice_in Json a b head meaning advice members h =
    let before = quote ∷ 44 ∷ member (codes "advice") ++ quote ∷ [] in
    let behind = quote ∷ members ++ 125 ∷ 10 ∷ [] in (
      head ++ (meaning ++ before),
      behind,
      appends_same a b (head ++ (meaning ++ ((before ++ advice) ++ behind))) (((head ++ (meaning ++ before)) ++ advice) ++ behind)
          (ap (λ (l : List ℕ). head ++ (meaning ++ l)) (append_assoc before advice behind) ∙ sym (inside head meaning before advice behind)) h,
    )

pub two_told : {T E : Type 0} (x : Result T E) (style : Style) (r : Refusal) (known : Known) (a b : Option (List ℕ)) (first last : StoreId) → r ≡ NotAStore → known.content ≡ TwoStores first last
    → OnOk x (Appends a b (refused_text style r known)) → OnOk x (GrowsWith a b (two_text first.0 last.0))
two_told (Ok v) style r known a b first last is has h =
    subst (GrowsWith a b) (ap (λ (q : Refusal). advice_text q known) is ∙ ap (λ (k : Content). content_text k NotAStore) has)
    (advice_in style a b (head_text style (number_of r) (name_of r)) (what_text (meaning_text r) (system_of r known.system)) (advice_text r known) (members_of r known) h)
two_told (Err e) style r known a b first last is has h = tt
