-- A store that is made can be opened, and has room then.
use Rattle.std.proofs.Common.{◌≡◌, ⊎_elim, ℕ, ◌<◌, true, [], None, le_refl, refl, sym, subst, arith}
use Rattle.law_machine.proofs.ApartResets.{blank, each_extent}
use Rattle.law_machine.specs.Apart.{freed, is_blank}
use Rattle.law_machine.specs.Device.{IsShape, Page, Shape}
use Rattle.law_machine.specs.Format.{number_of}
use Rattle.law_machine.specs.Formats.{Formats}
use Rattle.law_machine.specs.Open.{opened_state}
use Rattle.law_machine.specs.Recovery.{IsNew, Recovers}
use Rattle.law_machine.specs.State.{State}
use Rattle.law_room.proofs.MachineFreed.{new_has_room, opened_is, read}
use Rattle.law_room.specs.Example.{new_room}
use Rattle.law_room.specs.OfMachine.{HasRoomNow, NoneWorn}

module _ (S : Shape) (F : Formats) (apart : S.apart ≡ true) (img : ℕ → Page) (made : IsNew S F img) where
  abbrev pub given : Recovers S F img 0 (λ id. None)
  given = record {
    formats = λ j. number_of S.format;
    versions = λ j. 1;
    recorded = λ j. 0;
    pointers = λ e. 0;
    generations = λ e. 0;
    superblock = made.superblock;
    version = 1;
    recorded_fit = λ j lt. omega arith;
    runs = [];
    root = made.root;
    root_fits = made.root_fits;
    runs_fit = λ r none. absurd none;
    versions_fit = λ j lt. (le_refl _, made.some_number);
    extents_fit = λ e. (omega arith, omega arith);
    bounds = record {
      some_version = le_refl _;
      version_fits = made.some_number;
      commands_fit = omega arith;
      few_runs = omega arith;
      weight_fits = omega arith;
      chunks_fit = λ id. omega arith;
    };
    gives = record {
      runs_read = λ r none. absurd none;
      table_passes = λ id. tt;
      visible_pass = λ id. tt;
      runs_pass = λ stand r none. absurd none;
      holds = λ id l none. absurd none;
      values = λ id. refl;
    };
  }

  pub young : 0 < S.greatest_generation → NoneWorn S (opened_state S F img 0 (λ id. None) given)
  young some = subst (λ (s : State). NoneWorn S s) (sym (opened_is S F apart img 0 (λ id. None) given)) (λ e lt. ⊎_elim
      (λ reset. absurd (let there : 0 < 0 = (blank S (read S F apart img 0 (λ id. None) given) e reset.1).some in omega arith))
      (λ kept. (let is : (freed S (read S F apart img 0 (λ id. None) given)).world.extents.generation e ≡ 0 = kept.2 in
      omega arith))
      (each_extent S (read S F apart img 0 (λ id. None) given).world.extents
      (read S F apart img 0 (λ id. None) given).world.root (is_blank S (read S F apart img 0 (λ id. None) given)) S.extents e))

  pub room_there : IsShape S → 0 < S.greatest_generation → (gives : Recovers S F img 0 (λ id. None))
      × (gives.runs ≡ []) × HasRoomNow S F (opened_state S F img 0 (λ id. None) gives) new_room
  room_there shape some =
      (given, refl, new_has_room S F apart img 0 (λ id. None) given shape refl (young some))
