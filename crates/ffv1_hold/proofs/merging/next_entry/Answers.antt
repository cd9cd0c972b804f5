use Rattle.ffv1_hold.proofs.Common.{Some, ap, sym, ◌∙◌, refl, ordering_reverse, entry_cmp, entries_total, entries_antisymmetric, FileEntry}
use Rattle.ffv1_hold.proofs.merging.next_entry.Goals as goal

pub returns-in-Equal-clause-some : goal.returns-in-Equal-clause-some
returns-in-Equal-clause-some c =
    let a = c.a.view_is in
    let b = c.b.view_is in
    let slices = entries_antisymmetric c.a.inside.slice c.b.inside.slice (sym c.compare.ensures ∙ c.in-Equal.is) in
    let same = sym (ap (λ (e : FileEntry). e.0) b) ∙ sym slices ∙ ap (λ (e : FileEntry). e.0) a in
    let digests = sym (ap (λ (e : FileEntry). e.1) b) ∙ sym c.deref.ensures.value in
    (c.in-Some.is, c.in-Some-right.is ∙ ap Some (λ i. (same i, digests i)))

pub returns-in-Greater-clause-some : goal.returns-in-Greater-clause-some
returns-in-Greater-clause-some c =
    let a = ap (λ (e : FileEntry). e.0) c.a.view_is in
    let b = ap (λ (e : FileEntry). e.0) c.b.view_is in (
      c.in-Some-right.is,
      refl,
      rw c.in-Some.is ((λ i. entry_cmp (sym b i) (sym a i)) ∙ entries_total.antisymm c.b.inside.slice c.a.inside.slice
          ∙ ap ordering_reverse (sym c.compare.ensures ∙ c.in-Greater.is)),
    )
