-- In a closed set all needs are satisfied, and each move that may come keeps what makes a crash safe.
use Rattle.std.proofs.Common.{◌≡◌, ℕ, true, List, le-leb, leb-true, le_trans}
use Rattle.law_machine.proofs.Waiting.{Listed, listed}
use Rattle.law_machine.proofs.Moves.{keeps_page}
use Rattle.law_machine.proofs.SuperblockMoves.{keeps_superblock}
use Rattle.law_machine.proofs.RootMoves.{keeps_root}
use Rattle.law_machine.proofs.ResetMoves.{keeps_reset}
use Rattle.law_machine.proofs.RoundMoves.{keeps_begin, keeps_end}
use Rattle.law_machine.proofs.Carries.{root_local}
use Rattle.law_machine.specs.Cut.{Closed, Cut, Needs, satisfied}
use Rattle.law_machine.specs.Device.{IsShape, Page, Shape}
use Rattle.law_machine.specs.Element.{A_root, A_superblock, A_write, Element, Opening, log_of}
use Rattle.law_machine.specs.Formats.{Formats}
use Rattle.law_machine.specs.Lists.{◌∈◌}
use Rattle.law_machine.specs.Machine.{BeginRound, EndRound, Move, ResetExtent, StagePage, StageRoot, StageSuperblock, World, happens}
use Rattle.law_machine.specs.Recovery.{RootGives}
use Rattle.law_machine.specs.Safe.{Allowed, Safe}

listed_needs : (S : Shape) (els : List Element) (X : Cut) (x y : Element) → Closed S (log_of els) X → Listed els x
    → Listed els y → satisfied X x ≡ true → Needs S x y → satisfied X y ≡ true
listed_needs S els X (A_write x) (A_write y) closed has_x has_y is need = absurd need
listed_needs S els X (A_write x) (A_superblock v) closed has_x has_y is need = absurd need
listed_needs S els X (A_write x) (A_root r) closed has_x has_y is need = le-leb _ _
    (le_trans need (closed.write_root x has_x is))
listed_needs S els X (A_superblock u)
    (A_write y) closed has_x has_y is need = closed.superblock_writes u y has_x has_y (leb-true _ _ is) need.0 need.1
listed_needs S els X (A_superblock u) (A_superblock v) closed has_x has_y is need = absurd need
listed_needs S els X (A_superblock u) (A_root r) closed has_x has_y is need = le-leb _ _
    (le_trans need (closed.superblock_root u has_x (leb-true _ _ is)))
listed_needs S els X (A_root r) (A_write y) closed has_x has_y is need =
    closed.root_writes r y has_x has_y (leb-true _ _ is) need
listed_needs S els X (A_root r) (A_superblock v) closed has_x has_y is need = le-leb _ _
    (le_trans need (closed.root_superblocks r has_x (leb-true _ _ is) v.section))
listed_needs S els X (A_root r) (A_root q) closed has_x has_y is need = absurd need

pub needs_met : (S : Shape) (els : List Element) (X : Cut) (x y : Element) → Closed S (log_of els) X → x ∈ els
    → y ∈ els → satisfied X x ≡ true → Needs S x y → satisfied X y ≡ true
needs_met S els X x y closed has_x has_y is need = listed_needs S els X x y closed (listed els x has_x)
    (listed els y has_y) is need

pub move_keeps : (S : Shape) (F : Formats) (opening : Opening) (opened : ℕ → Page) (w : World) (move : Move)
    → IsShape S → Allowed S (RootGives S F opening) opening.frozen opened w move
    → Safe S (RootGives S F opening) opening.frozen opened w
    → Safe S (RootGives S F opening) opening.frozen opened (happens S w move)
move_keeps S F opening opened w (StagePage p b) shape may safe = keeps_page S
    (RootGives S F opening) opening.frozen opened (root_local S F shape) w p b may safe
move_keeps S F opening opened w (StageSuperblock j r) shape may safe = keeps_superblock S
    (RootGives S F opening) opening.frozen opened (root_local S F shape) w j r may safe
move_keeps S F opening opened w (StageRoot n runs m pointers) shape may safe = keeps_root S
    (RootGives S F opening) opening.frozen opened (root_local S F shape) w n runs m pointers may safe
move_keeps S F opening opened w (ResetExtent e) shape may safe = keeps_reset S
    (RootGives S F opening) opening.frozen opened (root_local S F shape) w e may safe
move_keeps S F opening opened w (BeginRound r) shape may safe = keeps_begin S
    (RootGives S F opening) opening.frozen opened (root_local S F shape) w r may safe
move_keeps S F opening opened w EndRound shape may safe = keeps_end S (RootGives S F opening) opening.frozen opened
    (root_local S F shape) w safe
