-- What is told of a refusal.
use Rattle.std.specs.Prelude.{ℕ, List, ◌∷◌, ◌++◌, [], Option, Some, None, Bool, true, false, codes, decimal}
use Rattle.std.specs.Io.KnownBytes.{Appends}
use Rattle.cs_disk.specs.declared.fault.SystemFault.{SystemFault}
use Rattle.cs_refusal.specs.Refusals.{name_of, number_of}
use Rattle.cs_refusal.specs.declared.refusals.Refusal.{Refusal}
use Rattle.cs_refusal.specs.declared.refusals.Refusal.TheVariants.{DeviceFault}
use Rattle.cs_advice.specs.Advices.{is_of_pages}
use Rattle.cs_advice.specs.Advised.{advice_text, id_members, loss_text, run_lost_text, system_advice, todo_members, todo_text}
use Rattle.cs_advice.specs.Outputs.{quote}
use Rattle.cs_advice.specs.Members.{member}
use Rattle.cs_advice.specs.Texts.{meaning_text, system_text}
use Rattle.cs_advice.specs.declared.knowns.Content.{Content}
use Rattle.cs_advice.specs.declared.knowns.Content.TheVariants.{TwoStores}
use Rattle.cs_advice.specs.declared.knowns.Known.{Known}
use Rattle.cs_advice.specs.declared.outcomes.Outcome.{Outcome}
use Rattle.cs_advice.specs.declared.outcomes.Outcome.TheVariants.{Absent, Damaged, Done, Failed, MayBeLost, NoStore, Refused, Unopened, Unread}
use Rattle.cs_advice.specs.declared.outputs.Style.{Style}
use Rattle.cs_advice.specs.declared.outputs.Style.TheVariants.{Json, Text}
use Rattle.cs_advice.specs.declared.tellings.Reason.{Reason}

-- the number and the name of a refusal, up to what it is: in a line of text, or in a JSON object
abbrev pub head_text : Style → (number : ℕ) → (name : List ℕ) → List ℕ
head_text Text number name = codes "refused " ++ decimal number ++ codes " " ++ name ++ codes ": "
head_text Json number name =
    123 ∷ member (codes "refused") ++ decimal number ++ 44 ∷ member (codes "name") ++ quote ∷ name ++ quote ∷ 44 ∷ member (codes "text") ++ quote ∷ []

-- what a refusal is, and why the system refused a call
abbrev pub what_text : (meaning : List ℕ) → Option SystemFault → List ℕ
what_text meaning None = meaning
what_text meaning (Some fault) = meaning ++ codes ", by the system: " ++ system_text fault

-- what to do, behind what it is: in a line of text, or in the rest of the JSON object, with these members behind it
abbrev pub rest_text : Style → (advice members : List ℕ) → List ℕ
rest_text Text advice members = 10 ∷ advice ++ 10 ∷ []
rest_text Json advice members = (quote ∷ 44 ∷ member (codes "advice") ++ quote ∷ []) ++ advice ++ (quote ∷ members ++ 125 ∷ 10 ∷ [])

-- a refusal with its number and name, what it is, why the system refused a call, and what to do
abbrev pub reason_text : Style → Reason → List ℕ
reason_text style reason =
    head_text style reason.number reason.name.now ++ (what_text reason.text.now reason.system ++ rest_text style (todo_text reason.advice) (todo_members reason.advice))

-- ---- of a refusal, by what is known of the file

-- only of 1 it is said why the system refused a call
abbrev pub system_of : Refusal → Option SystemFault → Option SystemFault
system_of DeviceFault system = system
system_of r system = None

-- both identities of a device with pages of two stores
abbrev pub content_members : Content → List ℕ
content_members (TwoStores first last) = id_members first.0 last.0
content_members content = []

-- the text where something is so, else none
abbrev pub text_if : Bool → List ℕ → List ℕ
text_if true text = text
text_if false text = []

abbrev pub members_of : Refusal → Known → List ℕ
members_of r known = text_if (is_of_pages r) (content_members known.content)

-- the whole message: its number and its name, what it is, and what is advised
abbrev pub refused_text : Style → Refusal → Known → List ℕ
refused_text style r known =
    head_text style (number_of r) (name_of r) ++ (what_text (meaning_text r) (system_of r known.system) ++ rest_text style (advice_text r known) (members_of r known))

-- of a file that the system didn't open
abbrev pub unopened_text : Style → SystemFault → List ℕ
unopened_text style fault =
    head_text style (number_of DeviceFault) (name_of DeviceFault)
    ++ (what_text (codes "the file can't be opened") (Some fault) ++ rest_text style (system_advice (Some fault)) [])

-- of a repair that stopped
abbrev pub stopped_text : List ℕ
stopped_text = codes "the repair stopped, and nothing was written: commands may be lost by it"

abbrev pub lost_text : Style → List ℕ
lost_text Text = codes "error: " ++ stopped_text ++ 10 ∷ loss_text ++ 10 ∷ []
lost_text Json = 123 ∷ member (codes "error") ++ quote ∷ stopped_text ++ quote ∷ 44 ∷ member (codes "advice") ++ quote ∷ loss_text ++ quote ∷ 125 ∷ 10 ∷ []

-- What is told of how a command ended: nothing where it was done, there was nothing, or what was printed says all.
abbrev pub told_text : Style → Outcome → Known → List ℕ
told_text style (Refused r) known = refused_text style r known
told_text style (NoStore r) known = refused_text style r known
told_text style (Unread r) known = refused_text style r known
told_text style (Unopened fault) known = unopened_text style fault
told_text style MayBeLost known = lost_text style
told_text style Done known = []
told_text style Absent known = []
told_text style Failed known = []
told_text style Damaged known = []

-- of a get that can't know whether there is a shard
abbrev pub run_lost_told : Style → List ℕ
run_lost_told style =
    head_text style 28 (codes "RunLost") ++ (codes "a run of the index that may name it can't be read" ++ rest_text style run_lost_text [])

-- known bytes grow by some in which these stand
abbrev pub GrowsWith : (before after : Option (List ℕ)) → List ℕ → Type 0
GrowsWith before after text = (front : List ℕ) × (behind : List ℕ) × Appends before after (front ++ text ++ behind)
