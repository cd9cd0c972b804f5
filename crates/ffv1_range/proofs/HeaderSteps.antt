-- The fields of a header, read one by one.
use Rattle.std.proofs.Common.{◌≡◌, ℕ, suc, ◌+◌, ◌-◌, ◌*◌, ◌^◌, ◌<◌, ◌≤◌, List, [], ◌∷◌, ◌++◌, Ok, Err, ap, ◌∙◌, subst, arith, refl}
use Rattle.std.proofs.Math.Nat.{mul-le-mul}
use Rattle.ffv1_range.specs.Decoder.{Reader}
use Rattle.ffv1_range.specs.Forms.{Form, ◌>>=◌, giving, ReadsForm, same_fault, form_at}
use Rattle.ffv1_range.specs.Reading.{symbol_form}
use Rattle.ffv1_range.specs.TableForms.{fresh_row}
use Rattle.ffv1_range.specs.HeaderForms.{symbols_onto, header_fields}
use Rattle.ffv1_range.specs.declared.coding.RangeFault.{RangeFault}
use Rattle.ffv1_range.proofs.Forms.{Continues, IsAtPlace, continue_next, continue_stop, end_of, read_on}

more_symbols : ℕ → List ℕ → ℕ → Form (List ℕ) (List ℕ) RangeFault
more_symbols n done symbol = symbols_onto n (done ++ symbol ∷ [])

symbols_onto-open : (n : ℕ) (done : List ℕ) → symbols_onto (suc n) done ≡ (symbol_form >>= more_symbols n done)
unfolding symbols_onto more_symbols
symbols_onto-open n done = refl

symbols_onto-none : (done : List ℕ) → symbols_onto 0 done ≡ giving done
unfolding symbols_onto
symbols_onto-none done = refl

-- one symbol more was read
pub symbol_turn : (form : Form (List ℕ) (List ℕ) RangeFault) (k n symbol : ℕ) (done : List ℕ) (q r s : Reader) (start row states : List ℕ) → k ≡ suc n
    → Continues same_fault form q start (symbols_onto k done) r row → ReadsForm same_fault symbol_form r row (Ok symbol) s states
    → Continues same_fault form q start (symbols_onto n (done ++ symbol ∷ [])) s states
unfolding more_symbols
symbol_turn form k n symbol done q r s start row states l so h =
    continue_next same_fault form symbol_form (more_symbols n done) q r s start row states symbol
    (subst (λ z. Continues same_fault form q start z r row) (ap (λ z. symbols_onto z done) l ∙ symbols_onto-open n done) so) h

-- one symbol more can't be read
pub symbol_fails : (count k n : ℕ) (done : List ℕ) (f : RangeFault) (q r s : Reader) (row states : List ℕ) → k ≡ suc n
    → Continues same_fault (symbols_onto count []) q fresh_row (symbols_onto k done) r row → ReadsForm same_fault symbol_form r row (Err f) s states
    → form_at same_fault (header_fields count) q tt ≡ Err f
symbol_fails count k n done f q r s row states l so h =
    read_on same_fault (λ at_hand. fresh_row) (λ at_hand used. at_hand) (symbols_onto count []) q s tt fresh_row (Err f)
    (continue_stop same_fault (symbols_onto count []) symbol_form (more_symbols n done) q r s fresh_row row states f
    (subst (λ z. Continues same_fault (symbols_onto count []) q fresh_row z r row) (ap (λ z. symbols_onto z done) l ∙ symbols_onto-open n done) so) h)

-- all were read
pub fields_end : (count k : ℕ) (done : List ℕ) (q r : Reader) (row : List ℕ) → k ≡ 0 → IsAtPlace r
    → Continues same_fault (symbols_onto count []) q fresh_row (symbols_onto k done) r row → ReadsForm same_fault (header_fields count) q tt (Ok done) r tt
fields_end count k done q r row l place so =
    read_on same_fault (λ at_hand. fresh_row) (λ at_hand used. at_hand) (symbols_onto count []) q r tt row (Ok done)
    (end_of same_fault (symbols_onto count []) (symbols_onto k done) q r fresh_row row done (ap (λ z. symbols_onto z done) l ∙ symbols_onto-none done) place so)

-- a tile's number fits the code's numbers
pub tile_fits : (row across column : ℕ) → row < 2 ^ 32 → across < 2 ^ 32 → column < 2 ^ 32 → row * across + column < 2 ^ 64
tile_fits row across column h k l =
    let most : row * across ≤ (2 ^ 32 - 1) * (2 ^ 32 - 1) = mul-le-mul {n₁ = row} {m₁ = across} {n₂ = 2 ^ 32 - 1} {m₂ = 2 ^ 32 - 1} (omega arith)
    (omega arith) in omega arith
