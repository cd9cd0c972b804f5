-- What is known of the elements of the top, after one part more.
use Rattle.std.proofs.Common.{◌≡◌, ℕ, Bool, true, false, eqb, List, [], ◌∷◌, ◌++◌, get_or, set, length, ◌<◌, refl, sym, ap, ◌∙◌, lit<, get_or-set_same, get_or-set_other}
use Rattle.std.specs.Prelude.{◌||◌, Option, Some, None}
use Rattle.std.specs.List.{list_any}
use Rattle.std.proofs.lemmas.List.Folds.{list_any-append}
use Rattle.std.proofs.lemmas.List.Sums.{fold-append}
use Rattle.std.proofs.lemmas.Bool.{eqb-true, eq-eqb}
use Rattle.std.proofs.Math.Bool.{or-false}
use Rattle.matroska_parts.specs.TopElements.{element_number}
use Rattle.matroska_parts.specs.declared.top_elements.TopElement.{TopElement}
use Rattle.matroska_parts.specs.declared.top_elements.TopElement.TheVariants as tops
use Rattle.matroska_parts.specs.declared.parts.Part.{Part}
use Rattle.matroska_parts.specs.declared.parts.Opening.{Opening}
use Rattle.ffv1_check.specs.declared.tops.Tops.{Tops}
use Rattle.ffv1_check.specs.Before.{begins_any, begins_ebml, first_of, segment_in, first_segment, has_crc32, stamp}
use Rattle.ffv1_check.specs.Inner.Stands.{TopsStand}

pub any_more : {X : Type 0} (p : X → Bool) (xs : List X) (x : X) → list_any p (xs ++ x ∷ []) ≡ (list_any p xs || p x)
any_more p xs x = list_any-append p xs (x ∷ []) ∙ ap (λ b. list_any p xs || b) (or-false (p x))

first_none : {X : Type 0} (o : Option X) → first_of o None ≡ o
first_none None = refl
first_none (Some x) = refl

first_assoc : {X : Type 0} (a b c : Option X) → first_of a (first_of b c) ≡ first_of (first_of a b) c
first_assoc None b c = refl
first_assoc (Some x) b c = refl

segment_more : (parts : List Part) (part : Part) → first_segment (parts ++ part ∷ []) ≡ first_of (first_segment parts) (segment_in part)
segment_more [] part = first_none (segment_in part)
segment_more (x ∷ xs) part = ap (first_of (segment_in x)) (segment_more xs part) ∙ first_assoc (segment_in x) (first_segment xs) (segment_in part)

pub true_with : (b : Bool) → true ≡ (b || true)
true_with true = refl
true_with false = refl

pub kept : (b : Bool) → b ≡ (b || false)
kept b = sym (or-false b)

pub kept_segment : (o : Option Opening) → o ≡ first_of o None
kept_segment o = sym (first_none o)

-- the state after a part that is like this
pub tops_more : (parts : List Part) (part : Part) (tops new : Tops) → TopsStand parts tops
    → new.begun ≡ (tops.begun || begins_any part) → new.has_ebml ≡ (tops.has_ebml || begins_ebml part)
    → new.segment ≡ first_of tops.segment (segment_in part) → new.timestamp ≡ stamp tops.timestamp part
    → ((element : TopElement) → get_or new.with_crc32 (element_number element) false ≡ (get_or tops.with_crc32 (element_number element) false || has_crc32 element part))
    → TopsStand (parts ++ part ∷ []) new
tops_more parts part tops new stand begun ebml segment timestamp with_crc32 = record {
  begun = begun ∙ ap (λ b. b || begins_any part) stand.begun ∙ sym (any_more begins_any parts part);
  ebml = ebml ∙ ap (λ b. b || begins_ebml part) stand.ebml ∙ sym (any_more begins_ebml parts part);
  segment = segment ∙ ap (λ o. first_of o (segment_in part)) stand.segment ∙ sym (segment_more parts part);
  timestamp = timestamp ∙ ap (λ o. stamp o part) stand.timestamp ∙ sym (fold-append stamp None parts (part ∷ []));
  with_crc32 = λ element. with_crc32 element ∙ ap (λ b. b || has_crc32 element part) (stand.with_crc32 element) ∙ sym (any_more (has_crc32 element) parts part);
}

-- a part that changes nothing
pub tops_same : (parts : List Part) (part : Part) (tops : Tops) → TopsStand parts tops → begins_any part ≡ false → begins_ebml part ≡ false
    → segment_in part ≡ None → stamp tops.timestamp part ≡ tops.timestamp → ((element : TopElement) → has_crc32 element part ≡ false)
    → TopsStand (parts ++ part ∷ []) tops
tops_same parts part tops stand begun ebml segment timestamp with_crc32 =
    tops_more parts part tops tops stand (kept tops.begun ∙ ap (λ b. tops.begun || b) (sym begun)) (kept tops.has_ebml ∙ ap (λ b. tops.has_ebml || b) (sym ebml))
    (kept_segment tops.segment ∙ ap (first_of tops.segment) (sym segment)) (sym timestamp)
    (λ element. kept (get_or tops.with_crc32 (element_number element) false) ∙ ap (λ b. get_or tops.with_crc32 (element_number element) false || b) (sym (with_crc32 element)))

-- ---- which elements had a CRC-32

pub set_true : (xs : List Bool) (k n : ℕ) → k < length xs → get_or (set xs k true) n false ≡ (get_or xs n false || eqb k n)
set_true xs k n within = go (eqb k n) refl
  where
    or_true : (b : Bool) → (b || true) ≡ true
    or_true true = refl
    or_true false = refl

    go : (b : Bool) → eqb k n ≡ b → get_or (set xs k true) n false ≡ (get_or xs n false || b)
    go true e = ap (λ m. get_or (set xs k true) m false) (sym (eqb-true k n e)) ∙ get_or-set_same xs k true false within ∙ sym (or_true (get_or xs n false))
    go false e =
        let apart : n ≡ k → ⊥ = λ same. let is : eqb k n ≡ true = eq-eqb k n (sym same) in let no : true ≡ false = sym is ∙ e in cc in
        get_or-set_other xs k n true false apart ∙ kept (get_or xs n false)

pub below_eleven : (element : TopElement) → element_number element < 11
below_eleven tops.Ebml = lit< tt
below_eleven tops.Segment = lit< tt
below_eleven tops.SeekHead = lit< tt
below_eleven tops.Info = lit< tt
below_eleven tops.Tracks = lit< tt
below_eleven tops.Cues = lit< tt
below_eleven tops.Cluster = lit< tt
below_eleven tops.Attachments = lit< tt
below_eleven tops.Chapters = lit< tt
below_eleven tops.Tags = lit< tt
below_eleven tops.Void = lit< tt
