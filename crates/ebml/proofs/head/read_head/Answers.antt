use Rattle.std.proofs.Common.{ap}
use Rattle.std.specs.Prelude.{Some}
use Rattle.ebml.specs.Inner.Front.{HasVint}
use Rattle.ebml.proofs.Heads.{parts_of, none_there, same_there, after, size_after, head_read, same_read}
use Rattle.ebml.proofs.head.read_head.Goals as goal

pub returns-in_default-clause-only : goal.returns-in_default-clause-only
returns-in_default-clause-only c = λ head has.
    let p = parts_of c.args.bytes.now head has in
    absurd (none_there (λ v. HasVint c.args.bytes.now 4 v) c.read_vint.result c.in_default.is c.read_vint.ensures.only p.id p.id_is)

pub returns-in_default-read_vint-clause-only : goal.returns-in_default-read_vint-clause-only
returns-in_default-read_vint-clause-only c = λ head has.
    let p = parts_of c.args.bytes.now head has in
    let same = same_there (λ v. HasVint c.args.bytes.now 4 v) c.read_vint.result c.in-Some.id c.in-Some.is c.read_vint.ensures.only p.id p.id_is in
    absurd (none_there (λ v. HasVint (after c.args.bytes.now c.in-Some.id.length) 8 v) c.read_vint-2.result c.in_default-read_vint.is c.read_vint-2.ensures.only
    p.size (size_after c.args.bytes.now head p c.in-Some.id same))

pub returns-clause-found : goal.returns-clause-found
returns-clause-found c =
    head_read c.args.bytes.now c.in-Some.id c.in-Some-read_vint.size c.data_size.result c.in-Some.ensures.found c.in-Some-read_vint.ensures.found c.data_size.ensures

pub returns-clause-only : goal.returns-clause-only
returns-clause-only c = λ head has.
    let p = parts_of c.args.bytes.now head has in
    let same = same_there (λ v. HasVint c.args.bytes.now 4 v) c.read_vint.result c.in-Some.id c.in-Some.is c.read_vint.ensures.only p.id p.id_is in
    let same_size = same_there (λ v. HasVint (after c.args.bytes.now c.in-Some.id.length) 8 v) c.read_vint-2.result c.in-Some-read_vint.size c.in-Some-read_vint.is c.read_vint-2.ensures.only
    p.size (size_after c.args.bytes.now head p c.in-Some.id same) in
    ap Some (same_read c.args.bytes.now head p c.in-Some.id c.in-Some-read_vint.size c.data_size.result same same_size c.data_size.ensures)
