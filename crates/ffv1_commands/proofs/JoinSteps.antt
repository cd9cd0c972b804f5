-- One file more is joined, and its line is added.
use Rattle.std.proofs.Common.{◌≡◌, ℕ, ◌+◌, ◌-◌, List, [], ◌∷◌, ◌++◌, length, Option, refl, sym, ap, ◌∙◌, subst, arith, append_assoc, append-nil}
use Rattle.ffv1_holding.specs.Sets as set
use Rattle.ffv1_holding.specs.Contents.{Contents, IsSameReel, joined}
use Rattle.ffv1_holding.specs.Joins.{joined_all, AreJoinable}
use Rattle.ffv1_holding.specs.declared.recordings.Recordings.{Recordings}
use Rattle.ffv1_commands.specs.Holdings.{IsTakenFile}
use Rattle.ffv1_commands.specs.JoinText.{file_line, line_of_join, lines_from, join_text, AreTakenFiles, JoinsEach}
use Rattle.ffv1_commands.specs.Inner.JoinText.{JoinsOne}

pub joined_all-push : (whole : Contents) (others : List Contents) (other : Contents)
    → joined_all joined whole (others ++ other ∷ []) ≡ joined (joined_all joined whole others) other
joined_all-push whole [] other = refl
joined_all-push whole (o ∷ os) other = joined_all-push (joined whole o) os other

pub AreJoinable-push : (whole : Contents) (others : List Contents) (other : Contents) → AreJoinable IsSameReel joined whole others
    → IsSameReel (joined_all joined whole others) other → AreJoinable IsSameReel joined whole (others ++ other ∷ [])
AreJoinable-push whole [] other are same = (same, tt)
AreJoinable-push whole (o ∷ os) other are same = (are.0, AreJoinable-push (joined whole o) os other are.1 same)

pub AreTakenFiles-push : (recordings : Recordings) (inputs : List (Option (List ℕ))) (hs : List Contents) (input : Option (List ℕ)) (h : Contents) → AreTakenFiles recordings inputs hs
    → IsTakenFile recordings input h → AreTakenFiles recordings (inputs ++ input ∷ []) (hs ++ h ∷ [])
AreTakenFiles-push recordings [] [] input h files file = (file, tt)
AreTakenFiles-push recordings [] (g ∷ gs) input h files file = absurd files
AreTakenFiles-push recordings (i ∷ is) [] input h files file = absurd files
AreTakenFiles-push recordings (i ∷ is) (g ∷ gs) input h files file = (files.0, AreTakenFiles-push _ is gs input h files.1 file)

pub length-AreTakenFiles : (recordings : Recordings) (inputs : List (Option (List ℕ))) (hs : List Contents) → AreTakenFiles recordings inputs hs → length inputs ≡ length hs
length-AreTakenFiles recordings [] [] files = refl
length-AreTakenFiles recordings [] (g ∷ gs) files = absurd files
length-AreTakenFiles recordings (i ∷ is) [] files = absurd files
length-AreTakenFiles recordings (i ∷ is) (g ∷ gs) files = let rest = length-AreTakenFiles _ is gs files.1 in omega arith

pub lines_from-push : (number : ℕ) (whole : Contents) (others : List Contents) (other : Contents)
    → lines_from number whole (others ++ other ∷ []) ≡ lines_from number whole others ++ line_of_join (number + length others)
    (joined_all joined whole others) other
lines_from-push number whole [] other =
    let same : number ≡ number + 0 = omega arith in
    append-nil (line_of_join number whole other) ∙ ap (λ n. line_of_join n whole other) same
lines_from-push number whole (o ∷ os) other =
    let same : number + 1 + length os ≡ number + length (o ∷ os) = omega arith in
    ap (λ t. line_of_join number whole o ++ t) (lines_from-push (number + 1) (joined whole o) os other)
    ∙ sym (append_assoc (line_of_join number whole o) (lines_from (number + 1) (joined whole o) os) _)
    ∙ ap (λ n. (line_of_join number whole o ++ lines_from (number + 1) (joined whole o) os) ++ line_of_join n
    (joined_all joined (joined whole o) os) other) same

abbrev pub joins_first : (recordings : Recordings) (input : Option (List ℕ)) (h : Contents) (text : List ℕ) → text ≡ file_line 1 (set.size h.slices) → IsTakenFile recordings input h
    → JoinsEach recordings (input ∷ []) h text
joins_first recordings input h text reported file = record {
  first = h;
  others = [];
  files = (file, tt);
  joinable = tt;
  held = refl;
  lines = reported ∙ sym (append-nil (file_line 1 (set.size h.slices)));
}

abbrev pub joins_more : (recordings : Recordings) (inputs : List (Option (List ℕ))) (old new : Contents) (before after : List ℕ) (input : Option (List ℕ)) (number : ℕ)
    → JoinsEach recordings inputs old before → number ≡ length inputs → JoinsOne (IsTakenFile recordings input) (number + 1) old new before after → JoinsEach recordings (inputs ++ input ∷ []) new after
joins_more recordings inputs old new before after input number each n one =
    let count = length-AreTakenFiles _ inputs (each.first ∷ each.others) each.files in
    let place : number + 1 ≡ 2 + length each.others = omega (arith, n, count) in
    record {
      first = each.first;
      others = each.others ++ one.other ∷ [];
      files = AreTakenFiles-push _ inputs (each.first ∷ each.others) input one.other each.files one.file;
      joinable = AreJoinable-push each.first each.others one.other each.joinable (subst (λ (h : Contents). IsSameReel h one.other) each.held one.same);
      held = one.held ∙ ap (λ h. joined h one.other) each.held ∙ sym (joined_all-push each.first each.others one.other);
      lines = one.line ∙ ap (λ t. t ++ line_of_join (number + 1) old one.other) each.lines
          ∙ ap (λ k. join_text each.first each.others ++ line_of_join k old one.other) place
          ∙ ap (λ (h : Contents). join_text each.first each.others ++ line_of_join (2 + length each.others) h one.other) each.held
          ∙ append_assoc (file_line 1 (set.size each.first.slices)) (lines_from 2 each.first each.others) _
          ∙ ap (λ t. file_line 1 (set.size each.first.slices) ++ t) (sym (lines_from-push 2 each.first each.others one.other));
    }

-- the reel of a union is that of its first part
pub joins_reel : (recordings : Recordings) (inputs : List (Option (List ℕ))) (whole : Contents) (text : List ℕ) (each : JoinsEach recordings inputs whole text) → whole.reel ≡ each.first.reel
joins_reel recordings inputs whole text each = ap (λ (h : Contents). h.reel) each.held ∙ joined_all-reel each.first each.others
  where
    joined_all-reel : (first : Contents) (others : List Contents) → (joined_all joined first others).reel ≡ first.reel
    joined_all-reel first [] = refl
    joined_all-reel first (o ∷ os) = joined_all-reel (joined first o) os

-- the line of a file, as the growth gives it
pub line_of_join-from : (number : ℕ) (whole other new : Contents) (count : ℕ) → new ≡ joined whole other
    → set.size new.slices ≡ set.size whole.slices + count → file_line number count ≡ line_of_join number whole other
unfolding line_of_join
line_of_join-from number whole other new count held growth =
    let size = ap (λ (h : Contents). set.size h.slices) held in
    let same : count ≡ set.size (joined whole other).slices - set.size whole.slices = omega (arith, size, growth) in
    ap (file_line number) same
