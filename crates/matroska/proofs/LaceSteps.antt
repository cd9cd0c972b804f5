-- Frames that are cut from a payload, and that they are one list.
use Rattle.std.proofs.Common.{◌≡◌, ℕ, zero, suc, ◌+◌, ◌*◌, ◌/◌, ◌<◌, ◌≤◌, List, [], ◌∷◌, ◌++◌, length, get_or, map, take, drop, replicate, refl, sym, ap, ◌∙◌, subst, arith, append-nil}
use Rattle.std.specs.Prelude.{◌↔◌, IsTrue, Bool, Option, Some, None, Result, Ok, Err, IfOk, MatchOption, sum}
use Rattle.std.specs.List.{AllByRecursion, concat, flat_map, fold}
use Rattle.flac_frame.specs.Frame.{PassesFlac}
use Rattle.matroska.specs.Sound.{IsRightFlac}
use Rattle.std.proofs.Math.Nat.{mul-div_cancel_left}
use Rattle.std.proofs.lemmas.List.{append_assoc, length-append, take_at, drop_at, take_more, take_all, map-append, take-append-drop, take_rest}
use Rattle.std.proofs.lemmas.List.Folds.{concat-append}
use Rattle.std.proofs.lemmas.List.Concat.{length-flat_map}
use Rattle.std.proofs.lemmas.List.Sums.{sum_by_more_le}
use Rattle.ffv1_bits.specs.Parity.{AreBytes}
use Rattle.ffv1_bits.proofs.Bytes.{AreBytes-drop, AreBytes-rest}
use Rattle.ebml.proofs.Heads.{after}
use Rattle.matroska.specs.Laces.{AreFrames, SizesFollow, GiveSizes, AreCutBy, AreLaced, FramesAreOne}
use Rattle.matroska.specs.Inner.Sizes.{FitIn, NoneGiven}
use Rattle.matroska.specs.declared.block.Lacing.{Lacing}
use Rattle.matroska.specs.declared.block.Lacing.TheVariants.{Unlaced, Xiph, Fixed, Ebml}
use Rattle.matroska.proofs.SizeSteps.{sizes_same}

-- ---- lengths

concat_is : (xs : List (List ℕ)) → concat xs ≡ flat_map (λ x. x) xs
concat_is [] = refl
concat_is (x ∷ xs) = ap (λ z. x ++ z) (concat_is xs)

lengths_summed : (n : ℕ) (xs : List (List ℕ)) → fold (λ a x. a + length x) n xs ≡ fold (λ a x. a + x) n (map length xs)
lengths_summed n [] = refl
lengths_summed n (x ∷ xs) = lengths_summed (n + length x) xs

length-concat : (xs : List (List ℕ)) → length (concat xs) ≡ sum (map length xs)
length-concat xs = ap length (concat_is xs) ∙ length-flat_map (λ x. x) xs ∙ lengths_summed 0 xs

-- ---- the frames so far

pub record CutSoFar (sizes bytes : List ℕ) (i : ℕ) (frames : List (List ℕ)) (left : List ℕ) : Type 0 where
  pub of_sizes : map length frames ≡ take i sizes
  pub joined : bytes ≡ concat frames ++ left

pub one_frame_more : (sizes bytes : List ℕ) (i : ℕ) (frames grown : List (List ℕ)) (left frame more : List ℕ) → CutSoFar sizes bytes i frames left → i < length sizes
    → frame ≡ take (get_or sizes i 0) left → more ≡ drop (get_or sizes i 0) left → length frame ≡ get_or sizes i 0 → grown ≡ frames ++ frame ∷ []
    → CutSoFar sizes bytes (i + 1) grown more
one_frame_more sizes bytes i frames grown left frame more so_far within front back long same = record {
  of_sizes = ap (map length) same ∙ map-append length frames (frame ∷ []) ∙ ap (λ z. z ++ length frame ∷ []) so_far.of_sizes
      ∙ ap (λ z. take i sizes ++ z ∷ []) long ∙ sym (take_more sizes i 0 within);
  joined = so_far.joined
      ∙ ap (λ z. concat frames ++ z) (sym (take-append-drop (get_or sizes i 0) left) ∙ ap (λ z. z ++ drop (get_or sizes i 0) left) (sym front) ∙ ap (λ z. frame ++ z) (sym back))
      ∙ sym (append_assoc (concat frames) frame more)
      ∙ ap (λ z. z ++ more) (sym (ap concat same ∙ concat-append frames (frame ∷ []) ∙ ap (λ z. concat frames ++ z) (append-nil frame)));
}

pub no_room : (sizes bytes : List ℕ) (i : ℕ) (frames : List (List ℕ)) (left : List ℕ) → CutSoFar sizes bytes i frames left → i < length sizes
    → length left < get_or sizes i 0 → length bytes < sum sizes
no_room sizes bytes i frames left so_far within short =
    let all = ap length so_far.joined in
    let so_long : length (concat frames) ≡ sum (take i sizes) = length-concat frames ∙ ap sum so_far.of_sizes in
    let most : sum (take i sizes) + get_or sizes i 0 ≤ sum sizes = sum_by_more_le (λ x. x) sizes i 0 within in
    omega (arith, all, so_long, most, short, length-append (concat frames) left)

pub all_cut : (sizes bytes : List ℕ) (i : ℕ) (frames grown : List (List ℕ)) (left : List ℕ) → CutSoFar sizes bytes i frames left → length sizes ≤ i
    → grown ≡ frames ++ left ∷ [] → AreCutBy sizes bytes grown
all_cut sizes bytes i frames grown left so_far all same =
    record { front = frames; last = left; all = same; of_sizes = so_far.of_sizes ∙ take_all i sizes all; joined = so_far.joined }

-- ---- room for frames

pub room_for : (sizes bytes : List ℕ) (frames : List (List ℕ)) → AreCutBy sizes bytes frames → sum sizes ≤ length bytes
room_for sizes bytes frames cut =
    let all = ap length cut.joined in
    let long : length (concat cut.front) ≡ sum sizes = length-concat cut.front ∙ ap sum cut.of_sizes in
    omega (arith, all, long, length-append (concat cut.front) cut.last)

fit_front : (bytes : List ℕ) (front : List (List ℕ)) → length (concat front) ≤ length bytes → FitIn bytes (map length front)
fit_front bytes [] room = tt
fit_front bytes (frame ∷ front) room =
    let long = length-append frame (concat front) in (omega (arith, room, long), fit_front bytes front (omega (arith, room, long)))

pub fit_of_cut : (sizes bytes : List ℕ) (frames : List (List ℕ)) → AreCutBy sizes bytes frames → FitIn bytes sizes
fit_of_cut sizes bytes frames cut =
    let all = ap length cut.joined in
    subst (FitIn bytes) cut.of_sizes (fit_front bytes cut.front (omega (arith, all, length-append (concat cut.front) cut.last)))

-- ---- one list

same_front : (a b x y : List ℕ) → a ++ x ≡ b ++ y → length a ≡ length b → (a ≡ b) × (x ≡ y)
same_front a b x y same long = (
  sym (take_at a x (length a) refl) ∙ ap (take (length a)) same ∙ ap (λ n. take n (b ++ y)) long ∙ take_at b y (length b) refl,
  sym (drop_at a x (length a) refl) ∙ ap (drop (length a)) same ∙ ap (λ n. drop n (b ++ y)) long ∙ drop_at b y (length b) refl,
)

cut_same : (f g : List (List ℕ)) (x y : List ℕ) → map length f ≡ map length g → concat f ++ x ≡ concat g ++ y → (f ≡ g) × (x ≡ y)
cut_same [] [] x y sizes same = (refl, same)
cut_same [] (b ∷ g) x y sizes same = let clash = ap length sizes in absurd (omega (arith, clash))
cut_same (a ∷ f) [] x y sizes same = let clash = ap length sizes in absurd (omega (arith, clash))
cut_same (a ∷ f) (b ∷ g) x y sizes same =
    let long : length a ≡ length b = cc in
    let tails : map length f ≡ map length g = cc in
    let first = same_front a b (concat f ++ x) (concat g ++ y) (sym (append_assoc a (concat f) x) ∙ same ∙ append_assoc b (concat g) y) long in
    let more = cut_same f g x y tails first.1 in
    (ap (λ z. z ∷ f) first.0 ∙ ap (λ z. b ∷ z) more.0, more.1)

pub frames_cut_same : (sizes bytes : List ℕ) (frames others : List (List ℕ)) → AreCutBy sizes bytes frames → AreCutBy sizes bytes others → frames ≡ others
frames_cut_same sizes bytes frames others cut cut_others =
    let same = cut_same cut.front cut_others.front cut.last cut_others.last (cut.of_sizes ∙ sym cut_others.of_sizes) (sym cut.joined ∙ cut_others.joined) in
    cut.all ∙ ap (λ z. z ++ cut.last ∷ []) same.0 ∙ ap (λ z. cut_others.front ++ z ∷ []) same.1 ∙ sym cut_others.all

follow_same : (lacing : Lacing) (before : Option ℕ) (bytes sizes rest others other_rest : List ℕ) → AreBytes bytes → length sizes ≡ length others
    → SizesFollow lacing before bytes sizes rest → SizesFollow lacing before bytes others other_rest → (sizes ≡ others) × (rest ≡ other_rest)
follow_same lacing before bytes [] rest [] other_rest are_bytes long follow others_follow = (refl, sym follow ∙ others_follow)
follow_same lacing before bytes [] rest (b ∷ others) other_rest are_bytes long follow others_follow = absurd (omega (arith, long))
follow_same lacing before bytes (a ∷ sizes) rest [] other_rest are_bytes long follow others_follow = absurd (omega (arith, long))
follow_same lacing before bytes (a ∷ sizes) rest (b ∷ others) other_rest are_bytes long follow others_follow =
    let one = sizes_same lacing bytes follow.0 follow.1 others_follow.0 others_follow.1 before a b are_bytes follow.2 others_follow.2 follow.3 others_follow.3 in
    let after_bytes : AreBytes others_follow.1 =
    AreBytes-rest others_follow.0 others_follow.1 (subst AreBytes others_follow.2 are_bytes) in
    let more = follow_same lacing (Some b) others_follow.1 sizes rest others other_rest after_bytes (omega (arith, long))
    (subst (λ z. SizesFollow lacing (Some b) z sizes rest) one.1 (subst (λ z. SizesFollow lacing (Some z) follow.1 sizes rest) one.0 follow.4)) others_follow.4 in
    (ap (λ z. z ∷ sizes) one.0 ∙ ap (λ z. b ∷ z) more.0, more.1)

fixed_same : (bytes sizes rest others other_rest : List ℕ) → length sizes ≡ length others → GiveSizes Fixed bytes sizes rest
    → GiveSizes Fixed bytes others other_rest → (sizes ≡ others) × (rest ≡ other_rest)
fixed_same bytes sizes rest others other_rest long given others_given =
    let products : (length sizes + 1) * given.1.0 ≡ (length sizes + 1) * others_given.1.0 =
    sym given.1.2 ∙ others_given.1.2 ∙ ap (λ n. (n + 1) * others_given.1.0) (sym long) in
    let some : 0 < length sizes + 1 = omega arith in
    let one : given.1.0 ≡ others_given.1.0 =
    sym (mul-div_cancel_left given.1.0 some) ∙ ap (λ n. n / (length sizes + 1)) products ∙ mul-div_cancel_left others_given.1.0 some in
    (given.1.1 ∙ ap (λ n. replicate n given.1.0) long ∙ ap (replicate (length others)) one ∙ sym others_given.1.1, sym given.0 ∙ others_given.0)

pub given_same : (lacing : Lacing) (bytes sizes rest others other_rest : List ℕ) → AreBytes bytes → length sizes ≡ length others → GiveSizes lacing bytes sizes rest
    → GiveSizes lacing bytes others other_rest → (sizes ≡ others) × (rest ≡ other_rest)
given_same Unlaced bytes sizes rest others other_rest are_bytes long given others_given = absurd given
given_same Xiph bytes sizes rest others other_rest are_bytes long given others_given =
    follow_same Xiph None bytes sizes rest others other_rest are_bytes long given others_given
given_same Fixed bytes sizes rest others other_rest are_bytes long given others_given = fixed_same bytes sizes rest others other_rest long given others_given
given_same Ebml bytes sizes rest others other_rest are_bytes long given others_given =
    follow_same Ebml None bytes sizes rest others other_rest are_bytes long given others_given

laced_same : (lacing : Lacing) (payload : List ℕ) (frames others : List (List ℕ)) → AreBytes payload → AreLaced lacing payload frames
    → AreLaced lacing payload others → frames ≡ others
laced_same lacing payload frames others are_bytes laced others_laced =
    let fronts : length laced.sizes ∷ laced.bytes ≡ length others_laced.sizes ∷ others_laced.bytes = sym laced.counted ∙ others_laced.counted in
    let long : length laced.sizes ≡ length others_laced.sizes = cc in
    let tails : laced.bytes ≡ others_laced.bytes = cc in
    let after_bytes : AreBytes others_laced.bytes = subst AreBytes (ap (drop 1) others_laced.counted) (AreBytes-drop 1 payload are_bytes) in
    let same = given_same lacing others_laced.bytes laced.sizes laced.rest others_laced.sizes others_laced.rest after_bytes long
    (subst (λ z. GiveSizes lacing z laced.sizes laced.rest) tails laced.given) others_laced.given in
    frames_cut_same others_laced.sizes others_laced.rest frames others
    (subst (λ z. AreCutBy others_laced.sizes z frames) same.1 (subst (λ z. AreCutBy z laced.rest frames) same.0 laced.cut)) others_laced.cut

pub frames_are_one : FramesAreOne
frames_are_one Unlaced payload frames others are_bytes are are_others = are ∙ sym are_others
frames_are_one Xiph payload frames others are_bytes are are_others = laced_same Xiph payload frames others are_bytes are are_others
frames_are_one Fixed payload frames others are_bytes are are_others = laced_same Fixed payload frames others are_bytes are are_others
frames_are_one Ebml payload frames others are_bytes are are_others = laced_same Ebml payload frames others are_bytes are are_others

-- ---- what the code found

-- the parts of a payload that has bytes
parts_of_payload : (payload : List ℕ) (count : ℕ) → 1 ≤ length payload → count ≡ get_or payload 0 0 → payload ≡ count ∷ after payload 1
parts_of_payload [] count some is = absurd (omega arith)
parts_of_payload (x ∷ payload) count some is = ap (λ z. z ∷ payload) (sym is) ∙ ap (λ z. count ∷ z) (sym (take_rest (x ∷ payload) 1))

same_parts : (payload : List ℕ) (count n : ℕ) (bytes : List ℕ) → payload ≡ count ∷ after payload 1 → payload ≡ n ∷ bytes → (n ≡ count) × (bytes ≡ after payload 1)
same_parts payload count n bytes is counted = let both : n ∷ bytes ≡ count ∷ after payload 1 = sym counted ∙ is in (cc, cc)

pub no_sizes : (lacing : Lacing) (payload : List ℕ) (count : ℕ) → 1 ≤ length payload → count ≡ get_or payload 0 0 → NoneGiven lacing count (after payload 1)
    → (frames : List (List ℕ)) → AreLaced lacing payload frames → ⊥
no_sizes lacing payload count some is none frames laced =
    let same = same_parts payload count (length laced.sizes) laced.bytes (parts_of_payload payload count some is) laced.counted in
    none laced.sizes laced.rest same.0 (subst (λ z. GiveSizes lacing z laced.sizes laced.rest) same.1 laced.given)
    (fit_of_cut laced.sizes laced.rest frames laced.cut)

pub no_frames : (lacing : Lacing) (payload : List ℕ) (count : ℕ) (sizes rest : List ℕ) → AreBytes payload → 1 ≤ length payload → count ≡ get_or payload 0 0
    → GiveSizes lacing (after payload 1) sizes rest → length sizes ≡ count → length rest < sum sizes → (frames : List (List ℕ)) → AreLaced lacing payload frames → ⊥
no_frames lacing payload count sizes rest are_bytes some is given counted short frames laced =
    let same = same_parts payload count (length laced.sizes) laced.bytes (parts_of_payload payload count some is) laced.counted in
    let after_bytes : AreBytes (after payload 1) = subst AreBytes (sym (take_rest payload 1)) (AreBytes-drop 1 payload are_bytes) in
    let one = given_same lacing (after payload 1) laced.sizes laced.rest sizes rest after_bytes (same.0 ∙ sym counted)
    (subst (λ z. GiveSizes lacing z laced.sizes laced.rest) same.1 laced.given) given in
    let room = room_for laced.sizes laced.rest frames laced.cut in
    let totals = ap sum one.0 in let lengths = ap length one.1 in omega (arith, short, room, totals, lengths)

pub laced_by : (lacing : Lacing) (payload : List ℕ) (count : ℕ) (sizes rest : List ℕ) → 1 ≤ length payload → count ≡ get_or payload 0 0
    → GiveSizes lacing (after payload 1) sizes rest → length sizes ≡ count → (frames : List (List ℕ)) → AreCutBy sizes rest frames → AreLaced lacing payload frames
laced_by lacing payload count sizes rest some is given counted frames cut = record {
  sizes = sizes;
  bytes = after payload 1;
  rest = rest;
  counted = parts_of_payload payload count some is ∙ ap (λ z. z ∷ after payload 1) (sym counted);
  given = given;
  cut = cut;
}

-- what holds of frames by their sizes, and of none where there is no room, holds of what was cut
pub cut_result : {V E : Type 0} (view : V → List (List ℕ)) (P : List (List ℕ) → Type 0) (Short : Type 0) (Cut : List (List ℕ) → Type 0) (result : Result (Option V) E)
    → (Short → (frames : List (List ℕ)) → P frames → ⊥) → ((frames : List (List ℕ)) → Cut frames → P frames)
    → IfOk result (λ found. MatchOption found Short (λ frames. Cut (view frames)))
    → IfOk result (λ found. MatchOption found ((frames : List (List ℕ)) → P frames → ⊥) (λ frames. P (view frames)))
cut_result view P Short Cut (Ok None) none some is = none is
cut_result view P Short Cut (Ok (Some frames)) none some is = some (view frames) is
cut_result view P Short Cut (Err e) none some is = tt

-- ---- frames that pass

pub at_index : {X : Type 0} (P : List ℕ → Type 0) (view : X → List ℕ) (xs : List X) (i : ℕ) (d : X) → i < length xs → AllByRecursion P (map view xs)
    → P (view (get_or xs i d))
at_index P view [] i d within all = absurd (omega (arith, within))
at_index P view (x ∷ xs) zero d within all = all.0
at_index P view (x ∷ xs) (suc i) d within all = at_index P view xs i d (omega (arith, within)) all.1

-- the frames of a payload pass exactly if those that were found do
pub found_pass : (lacing : Lacing) (payload : List ℕ) (frames : List (List ℕ)) (right : Bool) → AreBytes payload → AreFrames lacing payload frames
    → (IsTrue right ↔ AllByRecursion PassesFlac frames) → (IsTrue right ↔ IsRightFlac lacing payload)
found_pass lacing payload frames right are_bytes are passes = (
  λ is. (frames, are, passes.0 is),
  λ found. passes.1 (subst (AllByRecursion PassesFlac) (frames_are_one lacing payload found.0 frames are_bytes found.1 are) found.2),
)
