use Rattle.std.proofs.Common.{ap, refl, sym}
use Rattle.cs_index.specs.State.{State as Index, index_of}
use Rattle.law_machine.specs.Geometry.{most_weight_in}
use Rattle.law_machine.specs.Index.{names}
use Rattle.cs_inspect.specs.Choices.{chosen_extent, run_pages}
use Rattle.cs_inspect.proofs.Choosing.{by_garbage_next, by_next}
use Rattle.cs_inspect.proofs.choices.choose_sweep.Goals as goal

pub returns-in-FewestLive-clause-chosen : goal.returns-in-FewestLive-clause-chosen
returns-in-FewestLive-clause-chosen g c = λ honest view chunks are live. record {
  uses = c.in_ok-survey.survey.uses.items;
  greatest = c.in_ok-survey.survey.greatest;
  extents = c.in_ok-survey.ensures.extents;
  read = c.in_ok-survey.ensures.read honest view chunks are live;
  chooses = by_next c.extents-extents.result.now c.args.core.now.store.extents c.in_ok-survey.survey.uses.items c.deref.result.now c.index_pages-index_pages.ensures.whole c.extents-extents.ensures c.in_ok-survey.ensures.extents c.deref.ensures.value
      (chosen_extent c.choose_next.result) c.last_copied-last.result c.extent_pages-pages.result c.in_ok-survey.survey.greatest (run_pages (names (index_of c.args.core.now.store.index))) c.in-FewestLive.ensures c.last_copied-last.ensures c.extent_pages-pages.ensures
      c.choose_next.ensures;
}

pub returns-clause-chosen : goal.returns-clause-chosen
returns-clause-chosen g c = λ honest view chunks are live. record {
  uses = c.in_ok-survey.survey.uses.items;
  greatest = c.in_ok-survey.survey.greatest;
  extents = c.in_ok-survey.ensures.extents;
  read = c.in_ok-survey.ensures.read honest view chunks are live;
  chooses = by_garbage_next c.extents-extents.result.now c.args.core.now.store.extents c.in_ok-survey.survey.uses.items c.deref-in-MostGarbage.result.now c.index_pages-index_pages.ensures.whole c.extents-extents.ensures c.in_ok-survey.ensures.extents
      c.deref-in-MostGarbage.ensures.value (chosen_extent c.choose_most_garbage.result) (names (index_of c.index.result.now)) (most_weight_in c.extents-extents.result.now.format c.extents-extents.result.now.pages) c.index_pages-index_pages.result (names (index_of c.args.core.now.store.index))
      refl c.index_pages-index_pages.ensures.pages (ap (λ (i : Index). names (index_of i)) (sym c.index.ensures.index))
      c.in_ok-survey.survey.greatest _ _ c.in-MostGarbage.ensures c.choose_most_garbage.ensures;
}
