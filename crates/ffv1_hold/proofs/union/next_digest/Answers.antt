use Rattle.ffv1_hold.proofs.Common.{◌≡◌, sym, ◌∙◌, Ordering, Less, Equal, Greater, nil_from_length, digests_union}
use Rattle.ffv1_hold.proofs.DigestUnions.{rest_rises, BeginsBy, begins_by, first_alone, first_other, union-none}
use Rattle.ffv1_hold.proofs.union.next_digest.Goals.{After-cmp}
use Rattle.ffv1_hold.proofs.union.next_digest.Goals as goal

begins : (c : After-cmp) (o : Ordering) → c.cmp.result ≡ o → BeginsBy c.args.left.now c.args.right.now c.in-Some.a.now c.in-Some-split_first.b.now
    c.in-Some.lefts.now c.in-Some-split_first.rights.now o
begins c o is =
    begins_by _ _ c.in-Some.a.now c.in-Some-split_first.b.now c.in-Some.lefts.now c.in-Some-split_first.rights.now
    c.in-Some.ensures.cases.0 c.in-Some-split_first.ensures.cases.0 c.requires.left c.requires.right o (sym c.cmp.ensures ∙ is)

pub returns-in-Less-clause-some : goal.returns-in-Less-clause-some
returns-in-Less-clause-some c = begins (goal.at.returns-in-Less-clause-some c).After-cmp Less c.in-Less.is

pub returns-in-Less-clause-left_after : goal.returns-in-Less-clause-left_after
returns-in-Less-clause-left_after c = rest_rises _ _ _ c.in-Some.ensures.cases.0 c.requires.left

pub returns-in-Equal-clause-some : goal.returns-in-Equal-clause-some
returns-in-Equal-clause-some c = begins (goal.at.returns-in-Equal-clause-some c).After-cmp Equal c.in-Equal.is

pub returns-in-Equal-clause-left_after : goal.returns-in-Equal-clause-left_after
returns-in-Equal-clause-left_after c = rest_rises _ _ _ c.in-Some.ensures.cases.0 c.requires.left

pub returns-in-Equal-clause-right_after : goal.returns-in-Equal-clause-right_after
returns-in-Equal-clause-right_after c = rest_rises _ _ _ c.in-Some-split_first.ensures.cases.0 c.requires.right

pub returns-in-Greater-clause-some : goal.returns-in-Greater-clause-some
returns-in-Greater-clause-some c = begins (goal.at.returns-in-Greater-clause-some c).After-cmp Greater c.in-Greater.is

pub returns-in-Greater-clause-right_after : goal.returns-in-Greater-clause-right_after
returns-in-Greater-clause-right_after c = rest_rises _ _ _ c.in-Some-split_first.ensures.cases.0 c.requires.right

pub returns-in-None-split_first-clause-some : goal.returns-in-None-split_first-clause-some
returns-in-None-split_first-clause-some c =
    first_alone _ _ c.in-Some.lefts.now _ c.in-Some.ensures.cases.0 (nil_from_length _ c.in-None-split_first.ensures.cases) c.requires.left

pub returns-in-None-split_first-clause-left_after : goal.returns-in-None-split_first-clause-left_after
returns-in-None-split_first-clause-left_after c = rest_rises _ _ _ c.in-Some.ensures.cases.0 c.requires.left

pub returns-in-Some-split_first-2-clause-some : goal.returns-in-Some-split_first-2-clause-some
returns-in-Some-split_first-2-clause-some c =
    first_other _ _ c.in-Some-split_first-2.rights.now _ c.in-Some-split_first-2.ensures.cases.0 (nil_from_length _ c.in-None.ensures.cases) c.requires.right

pub returns-in-Some-split_first-2-clause-right_after : goal.returns-in-Some-split_first-2-clause-right_after
returns-in-Some-split_first-2-clause-right_after c = rest_rises _ _ _ c.in-Some-split_first-2.ensures.cases.0 c.requires.right

pub returns-in-None-split_first-2-clause-none : goal.returns-in-None-split_first-2-clause-none
returns-in-None-split_first-2-clause-none c =
    (λ i. digests_union (nil_from_length _ c.in-None.ensures.cases i) (nil_from_length _ c.in-None-split_first-2.ensures.cases i)) ∙ union-none
