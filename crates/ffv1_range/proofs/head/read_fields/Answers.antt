use Rattle.std.proofs.Common.{◌≡◌, ◌+◌, ◌-◌, [], ◌∷◌, ◌++◌, set, take, Ok, arith, rules, sym, subst}
use Rattle.std.proofs.lemmas.List.{take_more_set}
use Rattle.std.proofs.lemmas.Result.{err_from_is_err_and}
use Rattle.ffv1_range.specs.Forms.{same_fault, ReadsForm}
use Rattle.ffv1_range.specs.TableForms.{fresh_row}
use Rattle.ffv1_range.specs.HeaderForms.{symbols_onto, header_fields}
use Rattle.ffv1_range.proofs.Forms.{Continues, continue_start, at_ok}
use Rattle.ffv1_range.proofs.HeaderSteps.{symbol_turn, symbol_fails, fields_end}
use Rattle.ffv1_range.proofs.head.read_fields.Goals as goal

pub loop-index-init : goal.loop-index-init
loop-index-init c =
    let whole : c.args.count ≡ c.args.count - 0 = omega arith in
    record {
      going = subst (λ n. Continues same_fault (symbols_onto c.args.count []) c.args.decoder.now fresh_row (symbols_onto n []) c.args.decoder.now fresh_row) whole
          (continue_start same_fault (symbols_onto c.args.count []) c.args.decoder.now fresh_row);
      room = search rules;
      alive = λ h. absurd (omega arith);
    }

pub loop-index-preserved : goal.loop-index-preserved
loop-index-preserved c =
    let k = c.loop-index.index in
    let xs = c.loop-index.fields in
    let a = c.in_ok-symbol.symbol in
    let more : take (k + 1) (set xs k a) ≡ take k xs ++ a ∷ [] = take_more_set xs k a (omega (arith, c.loop-index.invariant.room)) in
    record {
      going =
          subst (λ z. Continues same_fault (symbols_onto c.args.count []) c.args.decoder.now fresh_row
          (symbols_onto (c.args.count - (k + 1)) z) c.unsigned.new.self c.unsigned.new.states) (sym more)
          (symbol_turn (symbols_onto c.args.count []) (c.args.count - k) (c.args.count - (k + 1)) a (take k xs) c.args.decoder.now c.loop-index.decoder c.unsigned.new.self fresh_row
          c.loop-index.states
          c.unsigned.new.states (omega arith) c.loop-index.invariant.going c.in_ok-symbol.ensures.read);
      room = search (rules, c.loop-index.invariant.room);
      alive = λ h. (c.in_ok-symbol.ensures.read.0, at_ok c.loop-index.decoder c.unsigned.new.self c.in_ok-symbol.ensures.read.0 c.in_ok-symbol.ensures.read.2);
    }

pub returns-in_err-symbol : goal.returns-in_err-symbol
returns-in_err-symbol c =
    let p = err_from_is_err_and c.from_residual.result c.from_residual.ensures.1 in
    rw (p.1, p.2)
    (symbol_fails c.args.count (c.args.count - c.loop-index.index) (c.args.count - (c.loop-index.index + 1)) (take c.loop-index.index c.loop-index.fields) c.in_err-symbol.field-0.0
    c.args.decoder.now c.loop-index.decoder
    c.unsigned.new.self c.loop-index.states c.unsigned.new.states (omega arith) c.loop-index.invariant.going c.in_err-symbol.ensures.read)

pub returns : goal.returns
returns c =
    let read = fields_end c.args.count (c.args.count - c.loop-index.index) (take c.loop-index.index c.loop-index.fields) c.args.decoder.now c.loop-index.decoder
    c.loop-index.states (omega arith)
    (c.loop-index.invariant.alive (omega arith)) c.loop-index.invariant.going in
    let all : c.loop-index.index ≡ c.args.count = omega arith in
    subst (λ z. ReadsForm same_fault (header_fields c.args.count) c.args.decoder.now tt (Ok (take z c.loop-index.fields)) c.loop-index.decoder tt) all read
