-- The search for the next known ID, in pieces.
use Rattle.std.proofs.Common.{◌≡◌, ℕ, ◌+◌, ◌-◌, ◌<◌, ◌≤◌, List, [], ◌++◌, length, take, drop, Bool, true, false, refl, sym, ap, ◌∙◌, subst, arith, inl, inr}
use Rattle.std.specs.Prelude.{◌⊎◌, IsTrue, Contains}
use Rattle.std.proofs.lemmas.Bool.{cases_lt}
use Rattle.std.proofs.lemmas.List.{length-append, length-drop, length-take-le, take-append-drop, take-append-le, drop-append-le, drop-drop, append-nil, append_assoc, drop_all, drop_at}
use Rattle.ffv1_devices.specs.Logs.{ReadLog}
use Rattle.ebml.specs.Vint.{number_of}
use Rattle.ebml.specs.Head.{HasHead}
use Rattle.ebml.specs.Items.{BeginsKnown, long_ids}
use Rattle.ebml_reader.specs.Reader.{Held}
use Rattle.ebml_reader.specs.Intake.{Passes, Has, IsBounded, Whatever}
use Rattle.ebml_reader.specs.Inner.Settled.{BeginsNoTop, PassesItem}
use Rattle.ebml_reader.proofs.Steps.{passes-nil, passes-fill, passes-pass, passes-trans, left_is, still}

known_longer : (xs more : List ℕ) → BeginsKnown xs → BeginsKnown (xs ++ more)
known_longer xs more known =
    let long = known.0 in
    (omega (arith, long, length-append xs more), subst (λ l. Contains long_ids (number_of l)) (sym (take-append-le 4 xs more known.0)) known.1)

known_shorter : (xs more : List ℕ) → 4 ≤ length xs → BeginsKnown (xs ++ more) → BeginsKnown xs
known_shorter xs more long known = (long, subst (λ l. Contains long_ids (number_of l)) (take-append-le 4 xs more long) known.1)

-- no known ID is after the start and before this place
abbrev pub NoneBefore : ℕ → List ℕ → Type 0
NoneBefore n bytes = (place : ℕ) → 0 < place → place < n → BeginsKnown (drop place bytes) → ⊥

-- none at a place that is seen
none_seen : (bytes more : List ℕ) (place : ℕ) → place + 4 ≤ length bytes → (BeginsKnown (drop place bytes) → ⊥) → BeginsKnown (drop place (bytes ++ more)) → ⊥
none_seen bytes more place long none known =
    none (known_shorter (drop place bytes) more (omega (arith, long, length-drop place bytes)) (subst BeginsKnown (drop-append-le place bytes more (omega (arith, long))) known))

-- a place after some bytes
after_some : (gone left : List ℕ) (place : ℕ) → length gone ≤ place → drop place (gone ++ left) ≡ drop (place - length gone) left
after_some gone left place more =
    ap (λ k. drop k (gone ++ left)) (omega (arith, more)) ∙ sym (drop-drop (place - length gone) (length gone) (gone ++ left))
    ∙ ap (drop (place - length gone)) (drop_at gone left (length gone) refl)

-- What was searched so far, and passed: no known ID is at one of its places, or where it ends.
abbrev pub NoneUpTo : List ℕ → List ℕ → Type 0
NoneUpTo gone left = (place : ℕ) → 0 < place → place ≤ length gone → BeginsKnown (drop place (gone ++ left)) → ⊥

pub record Searched (passed : ℕ) (old now : Held) (x y : ReadLog) : Type 0 where
  pub gone : List ℕ
  pub counted : passed ≡ length gone
  pub passes : Passes gone old now x y
  pub none : Whatever now (NoneUpTo gone)
  pub room : Has 5 now
  pub some : 0 < length now.bytes
  pub bounded : IsBounded now

pub not_searched : (held : Held) (log : ReadLog) → 0 < length held.bytes → Has 5 held → IsBounded held → Searched 0 held held log log
not_searched held log some room bounded = record {
  gone = [];
  counted = refl;
  passes = passes-nil held log;
  none = λ more ends place above below known. omega (arith, above, below);
  room = room;
  some = some;
  bounded = bounded;
}

-- a piece more
module _ (passed n : ℕ) (old now new : Held) (x y z : ReadLog) (searched : Searched passed old now x y) (unended : IsTrue now.ended → ⊥) (all : n ≡ length now.bytes)
    (none : NoneBefore n now.bytes) where
  long : 5 ≤ n
  long = elim searched.room [ inl ended ↦ absurd (unended ended) | inr there ↦ omega (arith, there, all) ]

  abbrev kept : Held
  kept = record { bytes = drop (n - 4) now.bytes; taken = now.taken; ended = now.ended }

  pub kept_some : 4 ≤ length (drop (n - 4) now.bytes)
  kept_some = let few = long in omega (arith, few, all, length-drop (n - 4) now.bytes)

  module _ (fills : Passes [] kept new y z) (room : Has 5 new) (bounded : IsBounded new) where
    abbrev gone_more : List ℕ
    gone_more = searched.gone ++ take (n - 4) now.bytes

    step : Passes (take (n - 4) now.bytes) now new y z
    step = passes-fill (take (n - 4) now.bytes) now kept new y y z (passes-pass (n - 4) now y) fills

    none_more : (more : List ℕ) → (IsTrue new.ended → more ≡ []) → NoneUpTo gone_more (new.bytes ++ more)
    none_more more ends place above below known =
        let all_is : gone_more ++ (new.bytes ++ more) ≡ searched.gone ++ (take (n - 4) now.bytes ++ (new.bytes ++ more)) =
        append_assoc searched.gone (take (n - 4) now.bytes) (new.bytes ++ more) in
        let left : take (n - 4) now.bytes ++ (new.bytes ++ more) ≡ now.bytes ++ (step.read ++ more) = sym (left_is (take (n - 4) now.bytes) now new y z step more) in
        let there : BeginsKnown (drop place (searched.gone ++ (now.bytes ++ (step.read ++ more)))) =
        subst (λ l. BeginsKnown (drop place l)) (all_is ∙ ap (λ l. searched.gone ++ l) left) known in
        let few = long in
        let front : length (take (n - 4) now.bytes) ≡ n - 4 = length-take-le (n - 4) now.bytes (omega (arith, all)) in
        let sum : length gone_more ≡ length searched.gone + (n - 4) = length-append searched.gone (take (n - 4) now.bytes) ∙ ap (λ k. length searched.gone + k) front in
        elim (cases_lt (length searched.gone) place) [
          | inl after ↦
              let q : ℕ = place - length searched.gone in
              none_seen now.bytes (step.read ++ more) (place - length searched.gone) (omega (arith, after, below, sum, all, few))
              (none (place - length searched.gone) (omega (arith, after)) (omega (arith, after, below, sum, all, few)))
              (subst BeginsKnown (after_some searched.gone (now.bytes ++ (step.read ++ more)) place (omega (arith, after))) there)
          | inr before ↦ searched.none (step.read ++ more) (still (take (n - 4) now.bytes) now new y z step more ends) place above before there
        ]

    pub searched_more : Searched (passed + (n - 4)) old new x z
    searched_more =
        let few = long in
        let counted = searched.counted in
        let held = kept_some in
        record {
          gone = searched.gone ++ take (n - 4) now.bytes;
          counted = omega (arith, counted, length-append searched.gone (take (n - 4) now.bytes), length-take-le (n - 4) now.bytes (omega (arith, all)));
          passes = passes-trans searched.gone (take (n - 4) now.bytes) old now new x y z searched.passes step;
          none = none_more;
          room = room;
          some = omega (arith, held, ap length fills.joined, length-append (drop (n - 4) now.bytes) fills.read);
          bounded = bounded;
        }

-- the end
module _ (passed n : ℕ) (old now : Held) (x y : ReadLog) (searched : Searched passed old now x y) (some : 0 < n) (within : n ≤ length now.bytes) (none : NoneBefore n now.bytes)
    (there : n < length now.bytes → BeginsKnown (drop n now.bytes)) (stop : (n < length now.bytes) ⊎ IsTrue now.ended) (no_top : Whatever old BeginsNoTop) where
  abbrev item : List ℕ
  item = searched.gone ++ take n now.bytes

  all_left : (more : List ℕ) → item ++ (drop n now.bytes ++ more) ≡ searched.gone ++ (now.bytes ++ more)
  all_left more =
      append_assoc searched.gone (take n now.bytes) (drop n now.bytes ++ more)
      ∙ ap (λ l. searched.gone ++ l) (sym (append_assoc (take n now.bytes) (drop n now.bytes) more) ∙ ap (λ l. l ++ more) (take-append-drop n now.bytes))

  long_item : length item ≡ length searched.gone + n
  long_item = length-append searched.gone (take n now.bytes) ∙ ap (λ k. length searched.gone + k) (length-take-le n now.bytes within)

  none_held : (more : List ℕ) → (IsTrue now.ended → more ≡ []) → (place : ℕ) → 0 < place → place < n → BeginsKnown (drop place (now.bytes ++ more)) → ⊥
  none_held more ends place above below known = elim stop [
    | inl less ↦
        let after = (there less).0 in
        none_seen now.bytes more place (omega (arith, after, below, length-drop n now.bytes)) (none place above below) known
    | inr ended ↦
        none place above below (subst (λ l. BeginsKnown (drop place l)) (ap (λ l. now.bytes ++ l) (ends ended) ∙ append-nil now.bytes) known)
  ]

  none_in : (more : List ℕ) → (IsTrue now.ended → more ≡ []) → (place : ℕ) → 0 < place → place < length item
      → BeginsKnown (drop place (item ++ (drop n now.bytes ++ more))) → ⊥
  none_in more ends place above below known =
      let there' : BeginsKnown (drop place (searched.gone ++ (now.bytes ++ more))) = subst (λ l. BeginsKnown (drop place l)) (all_left more) known in
      let long = long_item in
      elim (cases_lt (length searched.gone) place) [
        | inl after ↦ none_held more ends (place - length searched.gone) (omega (arith, after)) (omega (arith, after, below, long))
            (subst BeginsKnown (after_some searched.gone (now.bytes ++ more) place (omega (arith, after))) there')
        | inr before ↦ searched.none more ends place above before there'
      ]

  up_to : (more : List ℕ) → (IsTrue now.ended → more ≡ []) → (drop n now.bytes ++ more ≡ []) ⊎ BeginsKnown (drop n now.bytes ++ more)
  up_to more ends = elim (cases_lt n (length now.bytes)) [
    | inl less ↦ inr (known_longer (drop n now.bytes) more (there less))
    | inr all ↦ elim stop [
      | inl less ↦ absurd (omega (arith, less, all))
      | inr ended ↦ inl (ap (λ l. l ++ more) (drop_all n now.bytes all) ∙ ends ended)
    ]
  ]

  pub searched_all : PassesItem (passed + n) old record { bytes = drop n now.bytes; taken = now.taken; ended = now.ended } x y
  searched_all =
      let counted = searched.counted in
      let long = long_item in
      let few = searched.bounded.few in
      record {
        item = searched.gone ++ take n now.bytes;
        long' = omega (arith, counted, long);
        passes = passes-trans searched.gone (take n now.bytes) old now record { bytes = drop n now.bytes; taken = now.taken; ended = now.ended } x y y
            searched.passes (passes-pass n now y);
        bounded = record { few = omega (arith, few, length-drop n now.bytes); limit = searched.bounded.limit };
        is = λ more ends. record {
          some = omega (arith, some, long);
          no_element = λ head top has.
              no_top (searched.passes.read ++ more) (still searched.gone old now x y searched.passes more ends) head top
              (subst (λ l. HasHead l head) (all_left more ∙ sym (left_is searched.gone old now x y searched.passes more)) has);
          none_within = none_in more ends;
          up_to = up_to more ends;
        };
      }

-- ---- what the code searches

same_ended : (ended : Bool) → ended ≡ false → IsTrue ended → ⊥
same_ended ended isnt is = let both : ◌≡◌ {A = Bool} true false = sym is ∙ isnt in absurd cc

pub passed_piece : (passed n : ℕ) (old now mid new : Held) (x y z : ReadLog) (bytes : List ℕ) → Searched passed old now x y → bytes ≡ now.bytes → now.ended ≡ false
    → length bytes ≤ n → n ≤ length bytes → NoneBefore n bytes
    → mid ≡ record { bytes = drop (n - 4) now.bytes; taken = now.taken; ended = now.ended } → Passes [] mid new y z × Has 5 new × IsBounded new
    → Searched (passed + (n - 4)) old new x z
passed_piece passed n old now mid new x y z bytes searched same unended least most none mid_is fills =
    let long = ap length same in
    searched_more passed n old now new x y z searched (same_ended now.ended unended) (omega (arith, least, most, long)) (subst (NoneBefore n) same none)
    (subst (λ h. Passes [] h new y z) mid_is fills.0) fills.1 fills.2

pub searched_to : (passed n : ℕ) (old now end : Held) (x y : ReadLog) (bytes : List ℕ) → Searched passed old now x y → bytes ≡ now.bytes
    → end ≡ record { bytes = drop n now.bytes; taken = now.taken; ended = now.ended } → 0 < n → n ≤ length bytes → NoneBefore n bytes
    → (n < length bytes → BeginsKnown (drop n bytes)) → (n < length bytes) ⊎ IsTrue now.ended → Whatever old BeginsNoTop → PassesItem (passed + n) old end x y
searched_to passed n old now end x y bytes searched same end_is some within none there stop no_top =
    subst (λ h. PassesItem (passed + n) old h x y) (sym end_is)
    (searched_all passed n old now x y searched some (subst (λ l. n ≤ length l) same within) (subst (NoneBefore n) same none)
    (subst (λ l. n < length l → BeginsKnown (drop n l)) same there) (subst (λ l. (n < length l) ⊎ IsTrue now.ended) same stop) no_top)
