use Rattle.std.proofs.Common.{◌≡◌, ◌∙◌, sym, ap, subst}
use Rattle.std.proofs.lemmas.Result.{err_from_is_err_and}
use Rattle.ebml_reader.specs.Reader.{Held, ReaderState, StandsAfter}
use Rattle.ebml_reader.proofs.Given.{gives_item, all_given, fault_given}
use Rattle.ebml_reader.proofs.reader.ItemReader.next.Goals as goal

pub returns-in_err-settled : goal.returns-in_err-settled
returns-in_err-settled g c = λ first items stands.
    let p = err_from_is_err_and c.from_residual.result c.from_residual.ensures.1 in
    let same : c.args.self.now.held ≡ c.pass.new.self = sym (ap (λ (r : ReaderState). r.held) c.self.view_is) ∙ sym c.pass.ensures in
    rw (p.1, p.2) (fault_given c.in_err-settled.field-0.0 first _ _ items c.pass.new.self (subst (λ (h : Held). StandsAfter first items h (g.S.Source.log c.args.source.now)) same stands) c.in_err-settled.ensures)

pub returns-in_default : goal.returns-in_default
returns-in_default g c = λ first items stands.
    let same : c.args.self.now.held ≡ c.pass.new.self = sym (ap (λ (r : ReaderState). r.held) c.self.view_is) ∙ sym c.pass.ensures in
    let ends = rw c.in_default.is at c.in_ok-settled.ensures in
    all_given first _ _ items c.pass.new.self c.read_item.new.intake (subst (λ (h : Held). StandsAfter first items h (g.S.Source.log c.args.source.now)) same stands) ends.0 ends.1 ends.2

pub returns : goal.returns
returns g c = λ first items stands.
    let same : c.args.self.now.held ≡ c.pass.new.self = sym (ap (λ (r : ReaderState). r.held) c.self.view_is) ∙ sym c.pass.ensures in
    gives_item first _ _ items c.in-Some.settled c.pass.new.self c.read_item.new.intake (subst (λ (h : Held). StandsAfter first items h (g.S.Source.log c.args.source.now)) same stands)
    (rw c.in-Some.is at c.in_ok-settled.ensures)
