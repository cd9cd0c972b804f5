use Rattle.std.proofs.Common.{◌≡◌, ◌++◌, ℕ, List, length, length-append, arith, rules, ap, ◌∙◌, subst}
use Rattle.std.proofs.lemmas.Result.{err_from_is_err_and}
use Rattle.ffv1_bits.specs.Parity.{PassesParity}
use Rattle.ffv1_slice.specs.Chain.{IsFramed, status_before}
use Rattle.ffv1_vectors.specs.Spelled.{ReadsAs}
use Rattle.ffv1_vectors.proofs.slice.spell_slice.Goals as goal

pub returns-in_err-head : goal.returns-in_err-head
returns-in_err-head c =
    let p = err_from_is_err_and c.from_residual.result c.from_residual.ensures.1 in rw p.1 (record { spelled = tt; short = tt })

pub returns-in_err-extend_from_slice : goal.returns-in_err-extend_from_slice
returns-in_err-extend_from_slice c =
    let p = err_from_is_err_and c.from_residual-in_err-extend_from_slice.result c.from_residual-in_err-extend_from_slice.ensures.1 in
    rw p.1 (record { spelled = tt; short = tt })

pub with_footer-requires : goal.with_footer-requires
with_footer-requires c = omega (arith, c.len.ensures, c.extend_from_slice.new.self.ok.0)

pub returns-in_err-slice : goal.returns-in_err-slice
returns-in_err-slice c =
    let p = err_from_is_err_and c.from_residual-in_err-slice.result c.from_residual-in_err-slice.ensures.1 in
    rw p.1 (record { spelled = tt; short = tt })

pub returns-then-not-has_footer : goal.returns-then-not-has_footer
returns-then-not-has_footer c = record { spelled = tt; short = tt }

pub returns : goal.returns
returns c =
    let head : List ℕ = c.in_ok-head.head.items in
    let codes : List ℕ = c.args.codes.now in
    let footer : List ℕ = c.in_ok-slice.ensures.0 in
    let later = c.in_ok-slice.ensures.1 in
    let size = c.in_ok-slice.ensures.2 in
    let whole = c.in_ok-extend_from_slice.ensures.items in
    let place : c.len-place.result ≡ length head = c.len-place.ensures ∙ c.in_ok-head.head.ok.0 in
    let read : ReadsAs c.deref.result.now c.args.first c.args.key c.args.fields.now c.len-place.result = search rules in
    let header = subst (λ bytes. ReadsAs bytes c.args.first c.args.key c.args.fields.now (length head)) (c.deref.ensures.value ∙ whole)
    (subst (λ n. ReadsAs c.deref.result.now c.args.first c.args.key c.args.fields.now n) place read) in
    let slice = c.deref-2.ensures.value in
    let yes = c.if-not-has_footer.false in record {
      spelled = record {
        head = head;
        footer = footer;
        joined = later ∙ ap (λ z. z ++ footer) whole;
        footer_length = size;
        some_codes = omega (arith, header.at, length-append head codes);
        header = header;
        passes = subst PassesParity slice (c.has_footer.ensures.passes yes);
        framed = subst IsFramed slice (c.has_footer.ensures.framed yes);
        has_status = subst (λ bytes. status_before bytes (length bytes) ≡ c.args.status) slice (c.has_footer.ensures.status yes);
      };
      short = omega (
        arith,
        ap length later,
        length-append c.extend_from_slice.new.self.items footer,
        size,
        c.len.ensures,
        c.extend_from_slice.new.self.ok.0,
      );
    }
