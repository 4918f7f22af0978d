-- Appends stage no root.
use Rattle.std.proofs.Common.{◌≡◌, inl, inr, ℕ, suc, Bool, false, List, [], ◌∷◌, refl, ap, ◌∙◌}
use Rattle.law_machine.specs.Append.{Append, AppendAllBy, AppendBy, MergesTo, stage_pages}
use Rattle.law_machine.specs.Device.{Page, Shape}
use Rattle.law_machine.specs.Element.{Entry, Locator, Run, roots_of}
use Rattle.law_machine.specs.Extents.{Purpose}
use Rattle.law_machine.specs.Formats.{Formats}
use Rattle.law_machine.specs.Machine.{StagePage, World, happens}

-- v has the roots of w, and the same is persistent
pub record SameRoots (w v : World) : Type 0 where
  pub roots : roots_of v.elements ≡ roots_of w.elements
  pub persistent : v.persistent ≡ w.persistent
  pub root : v.root ≡ w.root

pub same_here : (w v : World) → v ≡ w → SameRoots w v
same_here w v is = record { roots = ap (λ (u : World). roots_of u.elements) is; persistent = ap (λ (u : World). u.persistent) is; root = ap (λ (u : World). u.root) is }

pages_stay : (S : Shape) (bs : List Page) (w : World) (e i : ℕ) → SameRoots w (stage_pages S w e i bs)
pages_stay S [] w e i = record { roots = refl; persistent = refl; root = refl }
pages_stay S (b ∷ bs) w e i = let rest = pages_stay S bs (happens S w (StagePage (S.address e i) b)) e (suc i) in
    record { roots = rest.roots; persistent = rest.persistent; root = rest.root }

-- a frame is appended, where chunks and runs lie apart or not
pub append_stays_by : (b : Bool) (S : Shape) (w v : World) (purpose : Purpose) (bs : List Page) (l : Locator) → AppendBy S b w purpose bs l v → SameRoots w v
append_stays_by b S w v purpose bs l a =
    let pages = pages_stay S bs w a.extent (w.extents.pointer a.extent) in
    record {
      roots = ap (λ (u : World). roots_of u.elements) a.after ∙ pages.roots;
      persistent = ap (λ (u : World). u.persistent) a.after ∙ pages.persistent;
      root = ap (λ (u : World). u.root) a.after ∙ pages.root;
    }

pub append_stays : (S : Shape) (w v : World) (purpose : Purpose) (bs : List Page) (l : Locator) → Append S w purpose bs l v → SameRoots w v
append_stays S w v purpose bs l a = append_stays_by false S w v purpose bs l a

-- frames are, one after another
pub appends_stay : (b : Bool) (S : Shape) (w v : World) (purpose : Purpose) (frames : List (List Page)) (ls : List Locator) → AppendAllBy S b w purpose frames ls v → SameRoots w v
appends_stay b S w v purpose [] [] all = same_here w v all
appends_stay b S w v purpose (bs ∷ frames) (l ∷ ls) all =
    let one = append_stays_by b S w all.0 purpose bs l all.1 in
    let rest = appends_stay b S all.0 v purpose frames ls all.2 in
    record { roots = rest.roots ∙ one.roots; persistent = rest.persistent ∙ one.persistent; root = rest.root ∙ one.root }
appends_stay b S w v purpose [] (l ∷ ls) all = absurd all
appends_stay b S w v purpose (bs ∷ frames) [] all = absurd all

pub merge_stays : (S : Shape) (F : Formats) (w v : World) (index : List Entry) (purpose : Purpose) (runs : List Run) → MergesTo S F w index purpose v runs → SameRoots w v
merge_stays S F w v index purpose runs (inl (entries, l, some, run, append, is)) = append_stays S w v purpose _ l append
merge_stays S F w v index purpose runs (inr (none, same, is)) = same_here w v same
