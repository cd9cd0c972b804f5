use Rattle.std.proofs.Common.{ap}
use Rattle.ffv1_holding.specs.Reels.{Reel, IsOwnReel, reel_of}
use Rattle.ffv1_holding.proofs.Reels.{own_of, own_record}
use Rattle.ffv1_holding.proofs.reel.Reel.recording.Given.{Over}
use Rattle.ffv1_holding.proofs.reel.Reel.recording.Goals as goal

own : (g : Over) (c : goal.After-recording g) → IsOwnReel (reel_of c.args.self.now.config c.recording.result.now) c.args.self.now
own g c = own_of _ _ _ c.recording.result.now c.self.invariant.0 c.self.view_is c.recording.ensures.setup c.recording.ensures.rules

pub returns-clause-rules : goal.returns-clause-rules
returns-clause-rules g c = λ is. ap (λ (r : Reel). r.rules) (own_record c.args.self.now _ is (own g c))

pub returns-clause-own : goal.returns-clause-own
returns-clause-own g c = own g c

pub returns-clause-well_formed : goal.returns-clause-well_formed
returns-clause-well_formed g c = (_, own g c)
