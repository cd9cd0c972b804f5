-- Stretches that are listed are in order.
use Rattle.std.proofs.Common.{ℕ, List, [], ◌∷◌, ◌++◌, replicate, sym, subst, arith}
use Rattle.std.specs.Prelude.{All}
use Rattle.std.specs.List.{fold}
use Rattle.std.proofs.lemmas.List.Elements.{All-push, All-nil}
use Rattle.ffv1_mend.specs.declared.part.Part.{Part}
use Rattle.ffv1_mend.specs.Improved.{IsWithin}
use Rattle.ffv1_stretches.specs.Stretches.{StretchValue, IsStretchOf, FollowsStretch, ends_after, AreInOrder}
use Rattle.ffv1_stretches.specs.Listed.{AreStretchWords, ArePartWords, IsNextPart, with_part, AreListed}

pub AreInOrder-push : (copies : ℕ) (ends : List ℕ) (all : List StretchValue) (next : StretchValue) → AreInOrder copies ends all → IsStretchOf copies next
    → FollowsStretch (fold ends_after ends all) next → AreInOrder copies ends (all ++ next ∷ [])
AreInOrder-push copies ends [] next order is after = (is, after, tt)
AreInOrder-push copies ends (s ∷ all) next order is after = (order.0, order.1, AreInOrder-push copies (ends_after ends s) all next order.2 is after)

-- the last of some in order
pub in_order_last : (copies : ℕ) (ends : List ℕ) (all : List StretchValue) (last : StretchValue) (rest : List StretchValue)
    → AreInOrder copies ends (all ++ last ∷ rest) → IsStretchOf copies last × FollowsStretch (fold ends_after ends all) last
in_order_last copies ends [] last rest order = (order.0, order.1)
in_order_last copies ends (s ∷ all) last rest order = in_order_last copies (ends_after ends s) all last rest order.2

pub in_order_front : (copies : ℕ) (ends : List ℕ) (all rest : List StretchValue) → AreInOrder copies ends (all ++ rest) → AreInOrder copies ends all
in_order_front copies ends [] rest order = tt
in_order_front copies ends (s ∷ all) rest order = (order.0, order.1, in_order_front copies (ends_after ends s) all rest order.2)

words_make : (copies : ℕ) (words : List (List ℕ)) (s : StretchValue) → AreStretchWords copies words s → IsStretchOf copies s
words_make copies words s are = record {
  count = are.count;
  from = are.there;
  parts' = subst (All (IsWithin s.size)) (sym are.alone) (All-nil (IsWithin s.size));
}

part_makes : (copies : ℕ) (words : List (List ℕ)) (s : StretchValue) (part : Part) → IsStretchOf copies s → ArePartWords words part → IsNextPart s part
    → IsStretchOf copies (with_part s part)
part_makes copies words s part is are next = record {
  count = is.count;
  from = is.from;
  parts' = All-push (IsWithin s.size) s.parts part is.parts' (record { order = omega (arith, are.ends); within = next.within });
}

pub listed_in_order : (copies : ℕ) (lines : List (List ℕ)) (all : List StretchValue) → AreListed copies lines all
    → AreInOrder copies (replicate copies 0) all
listed_in_order copies lines all AreListed.none = tt
listed_in_order copies lines all (AreListed.stretch ls sts l ws n listed are is after) =
    AreInOrder-push copies (replicate copies 0) sts n (listed_in_order copies ls sts listed) (words_make copies ws n is) after
listed_in_order copies lines all (AreListed.part ls sts last l ws n listed are is after) =
    let order = listed_in_order copies ls (sts ++ last ∷ []) listed in
    let both = in_order_last copies (replicate copies 0) sts last [] order in
    AreInOrder-push copies (replicate copies 0) sts (with_part last n) (in_order_front copies (replicate copies 0) sts (last ∷ []) order)
    (part_makes copies ws last n both.0 is after) both.1
