-- The children of a master, as they are read.
use Rattle.std.proofs.Common.{◌≡◌, ℕ, ◌+◌, ◌-◌, ◌^◌, ◌<◌, ◌≤◌, List, [], ◌∷◌, ◌++◌, length, take, min, refl, sym, ap, ◌∙◌, subst, arith, inl, inr}
use Rattle.std.specs.Prelude.{◌⊎◌, IsTrue, Option, Some, None, Contains}
use Rattle.std.specs.List.{AllByRecursion, concat}
use Rattle.std.proofs.lemmas.Bool.{cases_lt}
use Rattle.std.proofs.lemmas.List.{length-append, length-take, length-take-le, take-append-le, append-nil, take_all, take_at, drop_at}
use Rattle.ffv1_devices.specs.Logs.{ReadLog}
use Rattle.ebml.specs.Head.{HasHead}
use Rattle.ebml.specs.Children.{IsElement, IsChild, BeginsNoChild}
use Rattle.ebml.specs.declared.head.Head.{Head}
use Rattle.ebml.proofs.Heads.{heads_are_local, head_longer}
use Rattle.ebml.proofs.Elements.{head_of_front, front_head, long_head, concat_snoc, each_snoc}
use Rattle.ebml_reader.specs.Reader.{Held}
use Rattle.ebml_reader.specs.RunningCrc.{CrcSoFar}
use Rattle.ebml_reader.specs.Intake.{Passes, Has, IsBounded}
use Rattle.ebml_reader.specs.Pieces.{PassesUpTo, GoesOver, IsAllPassed, up_to, IsWithinLeft, ClaimsChild, HasNoChild, HoldsChild, PassesMaster}
use Rattle.ebml_reader.proofs.Steps.{passes-trans, passes-fill, left_is, still}
use Rattle.ebml_reader.proofs.PieceSteps.{over_more}

-- ---- heads up to a place

pub head_up_to : (limit : Option ℕ) (xs : List ℕ) (head : Head) → HasHead (up_to limit xs) head → HasHead xs head
head_up_to None xs head has = has
head_up_to (Some m) xs head has = head_of_front xs m head has

-- a front of what is left up to a place ends within that
long_within : (limit : Option ℕ) (xs : List ℕ) (n : ℕ) → IsWithinLeft (length (take n (up_to limit xs))) limit
long_within None xs n = tt
long_within (Some m) xs n = omega (arith, length-take n (take m xs), length-take m xs)

not_longer : (limit : Option ℕ) (xs : List ℕ) (n : ℕ) → length (take n (up_to limit xs)) ≤ length xs
not_longer None xs n = omega (arith, length-take n xs)
not_longer (Some m) xs n = omega (arith, length-take n (take m xs), length-take m xs)

-- the size of a child is that of its bytes
child_long : (head : Head) (size : ℕ) (bytes : List ℕ) → IsElement head bytes → head.size ≡ Some size → head.length + size ≡ length bytes
child_long head size bytes is known =
    let same : Some size ≡ Some (length bytes - head.length) = sym known ∙ is.whole in
    let one : size ≡ length bytes - head.length = cc in
    let room = is.has.room in
    omega (arith, one, room)

pub same_head : (a b : Head) → Some a ≡ Some b → b ≡ a
same_head a b e = cc

-- twelve bytes, or those up to a place if they are fewer
pub record IsSeenTo (seen : ℕ) (limit : Option ℕ) : Type 0 where
  pub none : limit ≡ None → seen ≡ 12
  pub some : (m : ℕ) → limit ≡ Some m → seen ≡ min 12 m

module _ (new : Held) where
  ended_heads : (limit : Option ℕ) → IsTrue new.ended → (more : List ℕ) → (IsTrue new.ended → more ≡ []) → (head : Head) → HasHead (up_to limit (new.bytes ++ more)) head
      → HasHead (up_to limit new.bytes) head
  ended_heads limit ended more ends head has =
      subst (λ l. HasHead (up_to limit l) head) (ap (λ l. new.bytes ++ l) (ends ended) ∙ append-nil new.bytes) has

  front_heads : (m : ℕ) (more : List ℕ) (head : Head) → min 12 m ≤ length new.bytes → HasHead (take m (new.bytes ++ more)) head → HasHead (take m new.bytes) head
  front_heads m more head there has = elim (cases_lt (length new.bytes) m) [
    | inl less ↦
        subst (λ l. HasHead l head) (sym (take_all m new.bytes (omega (arith, less))))
        ((heads_are_local new.bytes more head).1 (omega (arith, there, less)) (head_of_front (new.bytes ++ more) m head has))
    | inr more' ↦ subst (λ l. HasHead l head) (take-append-le m new.bytes more more') has
  ]

  pub sees_heads : (seen : ℕ) (limit : Option ℕ) → IsSeenTo seen limit → Has seen new → (more : List ℕ) → (IsTrue new.ended → more ≡ []) → (head : Head)
      → HasHead (up_to limit (new.bytes ++ more)) head → HasHead (up_to limit new.bytes) head
  sees_heads seen limit is (inl ended) more ends head has = ended_heads limit ended more ends head has
  sees_heads seen None is (inr there) more ends head has = (heads_are_local new.bytes more head).1 (omega (arith, there, is.none refl)) has
  sees_heads seen (Some m) is (inr there) more ends head has = front_heads m more head (omega (arith, there, is.some m refl)) has

module _ (ids : List ℕ) (limit : Option ℕ) (seen : ℕ) (old new : Held) (x y : ReadLog) (bytes : List ℕ) (is : IsSeenTo seen limit) (step : Passes [] old new x y)
    (has_seen : Has seen new) (bounded : IsBounded new) (front : bytes ≡ up_to limit new.bytes) where
  -- no head is there by which a child could begin
  pub none_claimed : ((head : Head) → HasHead bytes head → Contains ids head.id → (size : ℕ) → head.size ≡ Some size → IsWithinLeft (head.length + size) limit → ⊥)
      → HasNoChild ids limit old new x y
  none_claimed nothing = record {
    passes = step;
    bounded = bounded;
    none = λ more ends n child.
        let there : HasHead (up_to limit new.bytes) child.head =
        sees_heads new seen limit is has_seen more ends child.head (head_of_front (up_to limit (new.bytes ++ more)) n child.head child.element.has) in
        let whole = child_long child.head _ _ child.element child.element.whole in
        nothing child.head (subst (λ l. HasHead l child.head) (sym front) there) child.known _ child.element.whole
        (subst (λ k. IsWithinLeft k limit) (sym whole) (long_within limit (new.bytes ++ more) n));
  }

  pub one_claimed : (head : Head) (size : ℕ) → HasHead bytes head → ((other : Head) → HasHead bytes other → other ≡ head) → Contains ids head.id → head.size ≡ Some size
      → IsWithinLeft (head.length + size) limit → ClaimsChild ids limit head old new x y
  one_claimed head size has only known size_is within = record {
    passes = step;
    bounded = bounded;
    has = head_up_to limit new.bytes head (subst (λ l. HasHead l head) front has);
    known = known;
    size = size;
    size_is = size_is;
    within = within;
    only = λ more ends other there.
        only other (subst (λ l. HasHead l other) (sym front) (sees_heads new seen limit is has_seen more ends other there));
  }

-- ---- a child that is held

module _ (ids : List ℕ) (limit : Option ℕ) (head : Head) (whole : ℕ) (old mid new : Held) (x y z : ReadLog) (claims : ClaimsChild ids limit head old mid x y)
    (whole_is : (size : ℕ) → head.size ≡ Some size → whole ≡ min (head.length + size) (2 ^ 64 - 1)) (step : Passes [] mid new y z) (has : Has whole new) (bounded : IsBounded new) where
  by_size : whole ≡ min (head.length + claims.size) (2 ^ 64 - 1)
  by_size = whole_is claims.size claims.size_is

  must_end : (length new.bytes < whole) → IsTrue new.ended
  must_end less = elim has [ inl ended ↦ ended | inr there ↦ absurd (omega (arith, there, less)) ]

  pub cut_child : length new.bytes < whole → HasNoChild ids limit old new x z
  cut_child less = record {
    passes = passes-fill [] old mid new x y z claims.passes step;
    bounded = bounded;
    none = λ more ends n child.
        let left : mid.bytes ++ (step.read ++ more) ≡ new.bytes ++ more = left_is [] mid new y z step more in
        let there : HasHead (up_to limit (new.bytes ++ more)) child.head = head_of_front (up_to limit (new.bytes ++ more)) n child.head child.element.has in
        let same : child.head ≡ head =
        claims.only (step.read ++ more) (still [] mid new y z step more ends) child.head (subst (λ l. HasHead (up_to limit l) child.head) (sym left) there) in
        let long = child_long child.head claims.size _ child.element (ap (λ h. h.size) same ∙ claims.size_is) in
        let lengths : child.head.length ≡ head.length = ap (λ h. h.length) same in
        let none : length more ≡ 0 = ap length (ends (must_end less)) in
        let fits = not_longer limit (new.bytes ++ more) n in
        omega (arith, less, by_size, long, lengths, none, fits, length-append new.bytes more);
  }

  pub whole_child : whole ≤ length new.bytes → HoldsChild ids limit record { head = head; length = whole } old new x z
  whole_child there =
      let few = bounded.few in let limit' = bounded.limit in
      let exact : whole ≡ head.length + claims.size = omega (arith, there, by_size, few, limit') in
      let begins : HasHead new.bytes head = subst (λ l. HasHead l head) step.joined (head_longer mid.bytes step.read head claims.has) in
      let some = long_head new.bytes head begins in
      record {
        passes = passes-fill [] old mid new x y z claims.passes step;
        bounded = bounded;
        some = omega (arith, some, exact);
        there = there;
        within = subst (λ k. IsWithinLeft k limit) (sym exact) claims.within;
        known = claims.known;
        is = record {
          has = front_head new.bytes whole head (omega (arith, exact)) begins;
          whole = claims.size_is ∙ ap (λ (k : ℕ). Some k) (omega (arith, exact, length-take-le whole new.bytes there));
        };
      }

-- ---- the content of a master

pub record ContentSoFar (ids : List ℕ) (size passed : ℕ) (crc later : CrcSoFar) (old now : Held) (x y : ReadLog) : Type 0 where
  pub content : List ℕ
  pub long : passed ≡ length content
  pub most : passed ≤ size
  pub passes : Passes content old now x y
  pub over : GoesOver content crc later
  pub children : List (List ℕ)
  pub joined : content ≡ concat children
  pub each : AllByRecursion (IsChild ids) children

-- what is passed up to a place is what is left up to it
pub passed_up_to : (count : ℕ) (bytes : List ℕ) (new : Held) → length bytes ≤ count → (length bytes ≡ count) ⊎ IsAllPassed new → take count (bytes ++ (new.bytes ++ [])) ≡ bytes
passed_up_to count bytes new most (inl all) = take_at bytes (new.bytes ++ []) count all
passed_up_to count bytes new most (inr end) =
    ap (take count) (ap (λ l. bytes ++ l) (append-nil new.bytes ∙ end.0) ∙ append-nil bytes) ∙ take_all count bytes most

module _ (ids : List ℕ) (size passed : ℕ) (crc later last : CrcSoFar) (old now mid new : Held) (x y z w : ReadLog) (so_far : ContentSoFar ids size passed crc later old now x y)
    (bytes : List ℕ) (count : ℕ) (counted : count ≡ length bytes) (over : GoesOver bytes later last) where
  module _ (head : Head) (claims : ClaimsChild ids (Some (size - passed)) head now mid y z) (whole : ℕ) (small : size < 2 ^ 64)
      (whole_is : (n : ℕ) → head.size ≡ Some n → whole ≡ min (head.length + n) (2 ^ 64 - 1)) (passes : PassesUpTo whole bytes mid new z w) where
    pub exact_whole : whole ≡ head.length + claims.size
    exact_whole = let within = claims.within in omega (arith, whole_is claims.size claims.size_is, within, small)

    pub fits_whole : whole ≤ size - passed
    fits_whole = let within = claims.within in omega (arith, exact_whole, within)

    pub some_whole : 0 < whole
    some_whole = let some = long_head mid.bytes head claims.has in omega (arith, exact_whole, some)

    step : Passes bytes now new y w
    step = passes-trans [] bytes now mid new y z w claims.passes passes.passes

    begins : HasHead (bytes ++ (new.bytes ++ [])) head
    begins = subst (λ l. HasHead l head) (left_is bytes mid new z w passes.passes []) (head_longer mid.bytes (passes.passes.read ++ []) head claims.has)

    is_child : length bytes ≡ whole → IsChild ids bytes
    is_child all =
        let same : take (length bytes) (bytes ++ (new.bytes ++ [])) ≡ bytes = take_at bytes (new.bytes ++ []) (length bytes) refl in
        record {
          head = head;
          element = record {
            has = subst (λ l. HasHead l head) same (front_head (bytes ++ (new.bytes ++ [])) (length bytes) head (omega (arith, all, exact_whole)) begins);
            whole = claims.size_is ∙ ap (λ (k : ℕ). Some k) (omega (arith, all, exact_whole));
          };
          known = claims.known;
        }

    pub child_more : length bytes ≡ whole → ContentSoFar ids size (passed + whole) crc last old new x w
    child_more all =
        let most = so_far.most in let long = so_far.long in
        record {
          content = so_far.content ++ bytes;
          long = omega (arith, long, all, length-append so_far.content bytes);
          most = omega (arith, most, fits_whole);
          passes = passes-trans so_far.content bytes old now new x y w so_far.passes step;
          over = over_more so_far.content bytes crc later last so_far.over over;
          children = so_far.children ++ bytes ∷ [];
          joined = ap (λ l. l ++ bytes) so_far.joined ∙ sym (concat_snoc so_far.children bytes);
          each = each_snoc ids so_far.children bytes so_far.each (is_child all);
        }

    no_child : length bytes < whole → BeginsNoChild ids bytes
    no_child less n child =
        let fits = fits_whole in
        let same_left : mid.bytes ++ (passes.passes.read ++ []) ≡ bytes ++ (new.bytes ++ []) = left_is bytes mid new z w passes.passes [] in
        let up : take (size - passed) (bytes ++ (new.bytes ++ [])) ≡ bytes =
        passed_up_to (size - passed) bytes new (omega (arith, less, fits)) (elim passes.all [ inl all ↦ absurd (omega (arith, all, less)) | inr end ↦ inr end ]) in
        let there : HasHead (take (size - passed) (mid.bytes ++ (passes.passes.read ++ []))) child.head =
        subst (λ l. HasHead l child.head) (sym (ap (take (size - passed)) same_left ∙ up)) (head_of_front bytes n child.head child.element.has) in
        let same : child.head ≡ head = claims.only (passes.passes.read ++ []) (still bytes mid new z w passes.passes [] (λ _. refl)) child.head there in
        let long = child_long child.head claims.size _ child.element (ap (λ h. h.size) same ∙ claims.size_is) in
        let lengths : child.head.length ≡ head.length = ap (λ h. h.length) same in
        omega (arith, less, exact_whole, long, lengths, length-take n bytes)

    pub child_cut : length bytes < whole → PassesMaster ids size record { length = passed + count; children = passed } crc last old new x w
    child_cut less =
        let most = so_far.most in let long = so_far.long in
        let sum = length-append so_far.content bytes in
        record {
          content = so_far.content ++ bytes;
          long = omega (arith, long, sum, counted);
          passes = record {
            most = omega (arith, most, long, sum, less, fits_whole);
            passes = passes-trans so_far.content bytes old now new x y w so_far.passes step;
            bounded = passes.bounded;
            all = elim passes.all [ inl all ↦ absurd (omega (arith, all, less)) | inr end ↦ inr end ];
          };
          over = over_more so_far.content bytes crc later last so_far.over over;
          within = omega (arith, long, sum);
          children = so_far.children;
          are = record {
            joined = ap (λ l. l ++ bytes) so_far.joined ∙ ap (λ l. concat so_far.children ++ l) (sym (drop_at so_far.content bytes passed (sym long)));
            each = so_far.each;
            last = subst (BeginsNoChild ids) (sym (drop_at so_far.content bytes passed (sym long))) (no_child less);
          };
        }

  module _ (none : HasNoChild ids (Some (size - passed)) now mid y z) (passes : PassesUpTo (size - passed) bytes mid new z w) where
    none_left : BeginsNoChild ids bytes
    none_left =
        subst (BeginsNoChild ids)
        (ap (take (size - passed)) (left_is bytes mid new z w passes.passes []) ∙ passed_up_to (size - passed) bytes new passes.most passes.all)
        (none.none (passes.passes.read ++ []) (still bytes mid new z w passes.passes [] (λ _. refl)))

    pub content_end : PassesMaster ids size record { length = passed + count; children = passed } crc last old new x w
    content_end =
        let most = so_far.most in let long = so_far.long in let fits = passes.most in
        let sum = length-append so_far.content bytes in
        record {
          content = so_far.content ++ bytes;
          long = omega (arith, long, sum, counted);
          passes = record {
            most = omega (arith, most, long, sum, fits);
            passes = passes-trans so_far.content bytes old now new x y w so_far.passes (passes-trans [] bytes now mid new y z w none.passes passes.passes);
            bounded = passes.bounded;
            all = elim passes.all [ inl all ↦ inl (omega (arith, all, most, long, sum)) | inr end ↦ inr end ];
          };
          over = over_more so_far.content bytes crc later last so_far.over over;
          within = omega (arith, long, sum);
          children = so_far.children;
          are = record {
            joined = ap (λ l. l ++ bytes) so_far.joined ∙ ap (λ l. concat so_far.children ++ l) (sym (drop_at so_far.content bytes passed (sym long)));
            each = so_far.each;
            last = subst (BeginsNoChild ids) (sym (drop_at so_far.content bytes passed (sym long))) none_left;
          };
        }
