use Rattle.law_refinement.proofs.reads_refined.live_chunks_are_read.Goals as goal
use Rattle.law_refinement.proofs.FoundShards.{live_damaged, live_payload, live_whole}

pub returns : goal.returns
returns c = record {
  damaged = λ x i s held id l f is has fault. live_damaged x s held is.whole is.sound is.found i is.index id l f has fault;
  whole = λ x i s held id l is has fault. live_whole x s held is.whole is.sound is.found i is.index id l has fault;
  payload = λ x i s held id l payload is has frame. live_payload x s held is.whole is.sound is.found i is.index id l payload has frame;
}
