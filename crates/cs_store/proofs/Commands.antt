-- Which commands the events of rounds, syncs and sweeps accept: none.
use Rattle.std.proofs.Common.{◌≡◌, ◌∙◌, ℕ, List, [], ◌∷◌, ◌++◌, sym, ap, ap₂, refl, inl, inr}
use Rattle.std.proofs.lemmas.List.{append-nil, append_assoc}
use Rattle.cs_refusal.specs.declared.refusals.Refusal.{Refusal}
use Rattle.cs_frame.specs.declared.identifiers.ShardId.{ShardId}
use Rattle.law_machine.specs.State.{Command}
use Rattle.cs_core.specs.declared.events.Event.{Event}
use Rattle.cs_core.specs.declared.events.Event.TheVariants.{Delete, End, Put, Stage}
use Rattle.cs_core.specs.declared.events.Reply.{Reply}
use Rattle.cs_core.specs.declared.events.Reply.TheVariants.{Ended, Refused}
use Rattle.cs_core.specs.Meanings.{command_said, commands_said}
use Rattle.cs_core.specs.Views.{View}
use Rattle.cs_writeback.specs.Histories.{IsRefused}
use Rattle.cs_writeback.specs.Rounds.{IsPart, Members, Turn, events_of, events_of_all, issues, rest_of_round}
use Rattle.cs_writeback.specs.Sweeps.{moves}

-- what later events accept comes before what earlier ones did
pub said_both : (xs ys : List (Event × Reply)) → commands_said (xs ++ ys) ≡ commands_said ys ++ commands_said xs
said_both [] ys = sym (append-nil (commands_said ys))
said_both (x ∷ xs) ys = ap (λ (cs : List Command). cs ++ command_said x.0 x.1) (said_both xs ys) ∙ append_assoc (commands_said ys) (commands_said xs) (command_said x.0 x.1)

pub quiet_both : (xs ys : List (Event × Reply)) → commands_said xs ≡ [] → commands_said ys ≡ [] → commands_said (xs ++ ys) ≡ []
quiet_both xs ys p q = said_both xs ys ∙ ap₂ (λ (a b : List Command). a ++ b) q p

pub issues_quiet : (members : Members) → commands_said (issues members) ≡ []
issues_quiet [] = refl
issues_quiet (m ∷ ms) = ap (λ (cs : List Command). cs ++ []) (issues_quiet ms)

pub rest_quiet : (members : Members) (frontier : ℕ) → commands_said (rest_of_round members frontier) ≡ []
rest_quiet members frontier = quiet_both (issues members) ((End, Ended frontier) ∷ []) (issues_quiet members) refl

turn_quiet : (turn : Turn) → commands_said (events_of turn) ≡ []
turn_quiet turn = ap (λ (cs : List Command). cs ++ []) (rest_quiet turn.members turn.frontier)

pub turns_quiet : (turns : List Turn) → commands_said (events_of_all turns) ≡ []
turns_quiet [] = refl
turns_quiet (t ∷ ts) = quiet_both (events_of t) (events_of_all ts) (turn_quiet t) (turns_quiet ts)

pub part_quiet : (part : List (Event × Reply)) → IsPart part → commands_said part ≡ []
part_quiet part (inl none) = ap commands_said none
part_quiet part (inr (round, members, is)) = ap commands_said is ∙ ap (λ (cs : List Command). cs ++ []) (issues_quiet members)

pub stage_quiet : (reply : Reply) (xs : List (Event × Reply)) → commands_said xs ≡ [] → commands_said ((Stage, reply) ∷ xs) ≡ []
stage_quiet reply xs none = ap (λ (cs : List Command). cs ++ []) none

pub moves_quiet : (extent : ℕ) (moved : List (ShardId × ℕ)) → commands_said (moves extent moved) ≡ []
moves_quiet extent [] = refl
moves_quiet extent (m ∷ ms) = ap (λ (cs : List Command). cs ++ []) (moves_quiet extent ms)

-- nor does an event that is refused
refused_quiet : (event : Event) (r : Refusal) → command_said event (Refused r) ≡ []
refused_quiet (Put id bytes) r = refl
refused_quiet (Delete id) r = refl
refused_quiet event r = refl

pub added_quiet : {D : Type 0} (new : View D) (event : Event) (r : Refusal) (added : List (Event × Reply)) → IsRefused new event r added → commands_said added ≡ []
added_quiet new event r added (inl is) = ap commands_said is ∙ refused_quiet event r
added_quiet new event r added (inr none) = ap commands_said none.0
