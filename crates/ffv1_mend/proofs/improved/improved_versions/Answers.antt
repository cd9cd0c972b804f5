use Rattle.std.proofs.Common.{◌≡◌, ◌+◌, ℕ, List, [], ◌∷◌, ◌++◌, take, map, get_or, arith, ap, sym, ◌∙◌, subst}
use Rattle.std.specs.Prelude.{◌↔◌, IsTrue, Any, Contains}
use Rattle.std.proofs.lemmas.List.{map_push}
use Rattle.ffv1_slice.specs.Members.{HasSameMembers}
use Rattle.ffv1_weave.specs.References.{values_of}
use Rattle.ffv1_weave.proofs.References.{next_value, all_values, nowhere}
use Rattle.ffv1_mend.specs.Content.{content_bytes}
use Rattle.ffv1_mend.specs.Improved.{part_value, patched, given_patches, improved}
use Rattle.ffv1_mend.specs.declared.content.Content.{Content}
use Rattle.ffv1_mend.proofs.Members.{has_member, members_same, members_more}
use Rattle.ffv1_mend.proofs.improved.improved_versions.Goals as goal
use Rattle.ffv1_mend.proofs.improved.improved_versions.Goals.{then-not-is_held+in_ok-push, else-not-is_held+in-Made-1, else-not-is_held+in-Version-1}

pub loop-version-preserved : goal.loop-version-preserved
loop-version-preserved c =
    let i : ℕ = c.loop-version.version-index in
    let before : List (List ℕ) = improved (take i (values_of c.args.versions.now)) c.args.parts.now (map part_value c.args.mends.now) in
    let better = λ (version : List ℕ). patched version (given_patches c.args.parts.now (map part_value c.args.mends.now)) in
    let all : List Content = c.loop-version.all.items in
    let content : Content = c.in_ok-content.content in
    let bytes : List ℕ = c.bytes.result.now in
    let more : before ++ bytes ∷ [] ≡ improved (take (i + 1) (values_of c.args.versions.now)) c.args.parts.now (map part_value c.args.mends.now) =
    ap (λ b. before ++ b ∷ []) (c.bytes.ensures ∙ c.in_ok-content.ensures)
    ∙ sym (map_push better (take i (values_of c.args.versions.now)) (get_or c.args.versions.now i nowhere).now)
    ∙ ap (map better) (next_value c.args.versions.now i nowhere (omega arith)) in
    let asked : IsTrue c.is_held.result ↔ Any (λ one. content_bytes one ≡ bytes) all =
    subst (λ z. IsTrue c.is_held.result ↔ Any (λ one. content_bytes one ≡ bytes) z) c.as_slice.ensures.value c.is_held.ensures in
    let same : Contains (map content_bytes all) bytes → HasSameMembers (before ++ bytes ∷ []) (map content_bytes all) =
    λ has. members_same before (map content_bytes all) bytes c.loop-version.invariant has in
    elim c.if-not-is_held.branch [
      | then-not-is_held+in_ok-push w ↦
          let now : map content_bytes c.if-not-is_held.all.items ≡ map content_bytes all ++ bytes ∷ [] =
          ap (λ v. map content_bytes v.items) w.all-is ∙ ap (map content_bytes) w.in_ok-push.ensures.items ∙ map_push content_bytes all content
          ∙ ap (λ b. map content_bytes all ++ b ∷ []) (sym c.bytes.ensures) in
          subst (λ vs. HasSameMembers vs (map content_bytes c.if-not-is_held.all.items)) more
          (subst (HasSameMembers (before ++ bytes ∷ [])) (sym now) (members_more before (map content_bytes all) bytes c.loop-version.invariant))
      | else-not-is_held+in-Made-1 w ↦
          subst (λ vs. HasSameMembers vs (map content_bytes c.if-not-is_held.all.items)) more
          (subst (λ v. HasSameMembers (before ++ bytes ∷ []) (map content_bytes v.items)) (sym w.all-is)
          (same (has_member content_bytes all bytes c.is_held.result asked w.if-not-is_held.false)))
      | else-not-is_held+in-Version-1 w ↦
          subst (λ vs. HasSameMembers vs (map content_bytes c.if-not-is_held.all.items)) more
          (subst (λ v. HasSameMembers (before ++ bytes ∷ []) (map content_bytes v.items)) (sym w.all-is)
          (same (has_member content_bytes all bytes c.is_held.result asked w.if-not-is_held.false)))
    ]

pub returns : goal.returns
returns c =
    subst (λ versions. HasSameMembers (improved versions c.args.parts.now (map part_value c.args.mends.now)) (map content_bytes c.loop-version.all.items))
    (all_values c.args.versions.now c.loop-version.version-index c.loop-version-test.false) c.loop-version.invariant
