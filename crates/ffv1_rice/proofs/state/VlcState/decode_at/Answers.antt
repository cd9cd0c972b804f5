use Rattle.std.proofs.Common.{rules, Bool, ℕ, ℤ, subst, ◌≡◌, refl, ap, sym, ◌∙◌, to_z, of_z, w32}
use Rattle.std.specs.Prelude.{Ok}
use Rattle.std.proofs.lemmas.Result.{err_from_is_err_and}
use Rattle.ffv1_rice.specs.Codes.{IsCodedDifference, IsCodeFault}
use Rattle.ffv1_rice.proofs.Sums.{IsDifference-of_z, to_z-of_z-difference}
use Rattle.ffv1_rice.proofs.OneCode.{IsValueRead, value_read, coded_read, same_difference}
use Rattle.ffv1_bits.specs.Reader.{Reading, ReadsBits}
use Rattle.ffv1_rice.specs.Codes.{code_bits, IsCoded}
use Rattle.ffv1_rice.specs.States.{ContextState, IsCodedDepth, greatest_depth, sign_number, flipped, coded_value, IsDifference, IsParameter}
use Rattle.ffv1_rice.proofs.Depths.{greatest, widest, small_everywhere}
use Rattle.ffv1_rice.proofs.Windows.{begun_fits, begun_read, begun_after, reading_after}
use Rattle.ffv1_rice.proofs.Faults.{large_level, no_level_above, no_difference_at_fault}
use Rattle.ffv1_rice.proofs.state.VlcState.decode_at.Goals as goal

IsCodedDifference-of_z : (n : ℕ) (level : Bool) (d : ℤ) → IsCodedDepth n → IsCodedDifference n level d → IsCodedDifference n level (to_z w32 (of_z w32 d))
IsCodedDifference-of_z n level d depth coded = subst (IsCodedDifference n level) (sym (to_z-of_z-difference n d depth coded.0)) coded

-- the value that a number gives, as the code has computed it
value_taken : (n : ℕ) (s : ContextState) (number k : ℕ) (coded value : ℤ) (old new : Reading) → IsCodedDepth n → IsParameter s k
    → sign_number (flipped s coded) ≡ number → IsDifference n coded → coded_value n s value ≡ to_z w32 (of_z w32 coded) → IsDifference n value
    → ReadsBits old (code_bits n number k) new → IsValueRead n s value old new
value_taken n s number k coded value old new depth parameter is small back range reads =
    value_read n s number k coded value old new depth parameter is (back ∙ to_z-of_z-difference n coded depth small) range reads

pub number_ahead-requires : goal.number_ahead-requires
number_ahead-requires c = record { parameter = c.k.ensures.bound; depth = c.requires }

pub coded-coded-requires : goal.coded-coded-requires
coded-coded-requires c = small_everywhere c.args.depth c.in_ok-ahead.ahead.number c.requires c.in_ok-ahead.ensures.small

pub value-requires : goal.value-requires
value-requires c = record {
  depth = c.requires;
  range = IsDifference-of_z c.args.depth c.coded-coded.result c.requires
      (c.coded-coded.ensures.range c.args.depth c.requires c.in_ok-ahead.ensures.small);
}

pub difference_of-requires : goal.difference_of-requires
difference_of-requires c =
    record { depth = c.requires; range = IsDifference-of_z c.args.depth c.value.result c.requires c.value.ensures.range }

pub skip-requires : goal.skip-requires
skip-requires c = begun_fits _ _ _ c.in_ok-ahead.ensures.ok

pub update-requires : goal.update-requires
update-requires c =
    IsDifference-of_z greatest_depth c.coded-coded.result greatest (widest c.args.depth c.coded-coded.result c.requires
    (c.coded-coded.ensures.range c.args.depth c.requires c.in_ok-ahead.ensures.small))

pub returns-in_err-ahead-clause-found : goal.returns-in_err-ahead-clause-found
returns-in_err-ahead-clause-found c = λ difference after given spelled.
    absurd (no_difference_at_fault c.args.depth c.args.self.now c.args.level c.in_err-ahead.field-0.0 c.k.result difference c.args.bits.now after c.requires
    c.k.ensures.parameter c.in_err-ahead.ensures.err spelled)

pub returns-in_err-difference : goal.returns-in_err-difference
returns-in_err-difference c =
    let n : ℕ = c.args.depth in
    let p = err_from_is_err_and c.from_residual-in_err-difference.result c.from_residual-in_err-difference.ensures.1 in
    let begins = c.in_ok-ahead.ensures.ok in
    let later : Reading = reading_after c.args.bits.now _ _ begins in
    let small = c.coded-coded.ensures.range n c.requires c.in_ok-ahead.ensures.small in
    let read = value_taken n _ _ _ _ _ c.args.bits.now later c.requires c.k.ensures.parameter c.coded-coded.ensures.number small
    c.value.ensures.coded c.value.ensures.range (begun_after c.args.bits.now _ _ begins) in
    let given = c.in_err-difference.ensures.err in
    let top = sym (to_z-of_z-difference n c.value.result c.requires c.value.ensures.range) ∙ given.2 in
    rw (p.1, p.2)
    (record {
      range = tt;
      ok = tt;
      state = tt;
      found = λ difference after is spelled.
          absurd (no_level_above n c.args.self.now c.args.level c.value.result difference c.args.bits.now later after read given.0 top is spelled);
      err = subst (IsCodeFault n c.args.self.now c.args.level c.args.bits.now.left) (sym given.1)
          (large_level n c.args.self.now c.args.level c.value.result c.args.bits.now later read given.0 top);
      unchanged = (refl, refl);
    })

-- the difference is read, and it is each that has its code there
pub returns : goal.returns
returns c =
    let n : ℕ = c.args.depth in
    let small = c.coded-coded.ensures.range n c.requires c.in_ok-ahead.ensures.small in
    let value = to_z-of_z-difference n c.value.result c.requires c.value.ensures.range in
    let read = value_taken n _ _ _ _ _ c.args.bits.now c.skip.new.self c.requires c.k.ensures.parameter c.coded-coded.ensures.number small
    c.value.ensures.coded c.value.ensures.range (begun_read c.args.bits.now c.skip.new.self _ _ c.in_ok-ahead.ensures.ok c.skip.ensures) in
    let difference_is = to_z-of_z-difference n c.in_ok-difference.difference c.requires c.in_ok-difference.ensures.range.0 in
    record {
      range = IsCodedDifference-of_z n c.args.level c.in_ok-difference.difference c.requires c.in_ok-difference.ensures.range;
      ok =
          subst (λ d. IsCoded n c.args.self.now c.args.level d c.args.bits.now c.skip.new.self) (sym difference_is)
          (coded_read n c.args.self.now c.args.level c.value.result c.in_ok-difference.difference c.args.bits.now c.skip.new.self read
          (c.in_ok-difference.ensures.ok ∙ value));
      state = search rules;
      found = λ difference after given spelled.
          let same : c.in_ok-difference.difference ≡ difference =
          same_difference n c.args.self.now c.args.level c.value.result c.in_ok-difference.difference difference c.args.bits.now c.skip.new.self after read
          c.in_ok-difference.ensures.range (c.in_ok-difference.ensures.ok ∙ value) given spelled in
          ap (λ d. Ok d) (difference_is ∙ same);
      err = tt;
      unchanged = tt;
    }
