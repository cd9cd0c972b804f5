use Rattle.std.proofs.Common.{◌-◌, ap}
use Rattle.std.specs.Prelude.{Some}
use Rattle.ebml.specs.Inner.Front.{HasVint}
use Rattle.ebml.proofs.Numbers.{shifted_marker}
use Rattle.ebml.proofs.Heads.{none_there, same_there, vint_with, same_data}
use Rattle.ebml.proofs.vint.read_vint_data.Goals as goal

pub returns-in_default-clause-only : goal.returns-in_default-clause-only
returns-in_default-clause-only c = λ found has.
    absurd (none_there (λ v. HasVint c.args.bytes.now 8 v) c.read_vint.result c.in_default.is c.read_vint.ensures.only _ (vint_with c.args.bytes.now found has))

pub returns-clause-only : goal.returns-clause-only
returns-clause-only c = λ found has.
    let same = same_there (λ v. HasVint c.args.bytes.now 8 v) c.read_vint.result c.in-Some.vint c.in-Some.is c.read_vint.ensures.only _ (vint_with c.args.bytes.now found has) in
    ap Some (same_data c.args.bytes.now found c.in-Some.vint _ has same (ap (λ m. c.in-Some.vint.number - m) (shifted_marker c.in-Some.vint.length c.in-Some.ensures.found.short)))
