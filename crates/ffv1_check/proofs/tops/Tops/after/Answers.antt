use Rattle.std.proofs.Common.{false, get_or, sym, ap, ◌∙◌}
use Rattle.std.specs.Prelude.{◌||◌}
use Rattle.matroska_parts.specs.TopElements.{element_number}
use Rattle.ffv1_check.specs.Before.{begins_any, begins_ebml, first_of, segment_in, stamp, has_crc32}
use Rattle.ffv1_check.proofs.TopSteps.{tops_more, kept, kept_segment, tops_same}
use Rattle.ffv1_check.proofs.tops.Tops.after.Goals as goal

pub returns-in-Unknown : goal.returns-in-Unknown
returns-in-Unknown c = λ parts stand.
    let is = c.in-Unknown.is in let tops = c.args.self.now in
    tops_same parts c.args.part.now tops stand (ap begins_any is) (ap begins_ebml is) (ap segment_in is) (ap (stamp tops.timestamp) is)
    (λ element. ap (has_crc32 element) is)

pub returns-in-Block : goal.returns-in-Block
returns-in-Block c = λ parts stand.
    let is = c.in-Block.is in let tops = c.args.self.now in
    tops_same parts c.args.part.now tops stand (ap begins_any is) (ap begins_ebml is) (ap segment_in is) (ap (stamp tops.timestamp) is)
    (λ element. ap (has_crc32 element) is)

pub returns-in-Record : goal.returns-in-Record
returns-in-Record c = λ parts stand.
    let is = c.in-Record.is in let tops = c.args.self.now in
    tops_same parts c.args.part.now tops stand (ap begins_any is) (ap begins_ebml is) (ap segment_in is) (ap (stamp tops.timestamp) is)
    (λ element. ap (has_crc32 element) is)

pub returns-in-NoMatroska : goal.returns-in-NoMatroska
returns-in-NoMatroska c = λ parts stand.
    let is = c.in-NoMatroska.is in let tops = c.args.self.now in
    tops_same parts c.args.part.now tops stand (ap begins_any is) (ap begins_ebml is) (ap segment_in is) (ap (stamp tops.timestamp) is)
    (λ element. ap (has_crc32 element) is)

pub returns-in-Timestamp : goal.returns-in-Timestamp
returns-in-Timestamp c = λ parts stand.
    let is = c.in-Timestamp.is in let tops = c.args.self.now in
    tops_more parts c.args.part.now tops _ stand (kept tops.begun ∙ ap (λ b. tops.begun || begins_any b) (sym is))
    (kept tops.has_ebml ∙ ap (λ b. tops.has_ebml || begins_ebml b) (sym is))
    (kept_segment tops.segment ∙ ap (λ b. first_of tops.segment (segment_in b)) (sym is)) (ap (stamp tops.timestamp) (sym is))
    (λ element. kept _ ∙ ap (λ b. get_or tops.with_crc32 (element_number element) false || has_crc32 element b) (sym is))
