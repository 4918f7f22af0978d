use Rattle.std.proofs.Common.{◌∙◌, refl}
use Rattle.cs_extent.specs.Purposes.{reason_of}
use Rattle.cs_extent.specs.State.{extents_of, shape}
use Rattle.cs_extent.proofs.Worn.{counted_fit, worn_by}
use Rattle.cs_extent.proofs.extents.Extents.may_append.Goals as goal

pub returns-then-are_worn-clause-full : goal.returns-then-are_worn-clause-full
returns-then-are_worn-clause-full c =
    let fits = counted_fit (shape c.args.self.now) (shape c.args.self.now).apart (extents_of c.args.self.now) (reason_of c.args.purpose) c.args.frame_pages.now c.in-Some.counts c.in-Some.ensures in
    ((λ e. absurd (cc e)), (λ not. absurd (not fits)))

pub returns-then-are_worn-clause-worn : goal.returns-then-are_worn-clause-worn
returns-then-are_worn-clause-worn c =
    let fits = counted_fit (shape c.args.self.now) (shape c.args.self.now).apart (extents_of c.args.self.now) (reason_of c.args.purpose) c.args.frame_pages.now c.in-Some.counts c.in-Some.ensures in
    let worn = worn_by (shape c.args.self.now).apart c.args.self.now c.args.graph.now.staging (reason_of c.args.purpose) c.args.frame_pages.now c.in-Some.counts c.sections.result
    c.geometry.ensures.whole c.in-Some.ensures (c.sections.ensures.sections ∙ c.geometry.ensures.sections) c.are_worn.result c.are_worn.ensures in
    ((λ e. (fits, worn.0 c.if-are_worn.true)), (λ w. refl))

pub returns-clause-full : goal.returns-clause-full
returns-clause-full c =
    let fits = counted_fit (shape c.args.self.now) (shape c.args.self.now).apart (extents_of c.args.self.now) (reason_of c.args.purpose) c.args.frame_pages.now c.in-Some.counts c.in-Some.ensures in
    ((λ e. absurd (cc e)), (λ not. absurd (not fits)))

pub returns-clause-worn : goal.returns-clause-worn
returns-clause-worn c =
    let worn = worn_by (shape c.args.self.now).apart c.args.self.now c.args.graph.now.staging (reason_of c.args.purpose) c.args.frame_pages.now c.in-Some.counts c.sections.result
    c.geometry.ensures.whole c.in-Some.ensures (c.sections.ensures.sections ∙ c.geometry.ensures.sections) c.are_worn.result c.are_worn.ensures in
    ((λ e. absurd (cc e)), (λ w. absurd (cc (c.if-are_worn.false, worn.1 w.1))))

pub returns-clause-fits : goal.returns-clause-fits
returns-clause-fits c =
    counted_fit (shape c.args.self.now) (shape c.args.self.now).apart (extents_of c.args.self.now) (reason_of c.args.purpose) c.args.frame_pages.now c.in-Some.counts c.in-Some.ensures
