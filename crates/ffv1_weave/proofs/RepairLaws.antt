-- Laws of repairs.
use Rattle.ffv1_weave.proofs.Common.{◌≡◌, ℕ, ◌*◌, List, length, sym, ap, ◌∙◌, HasSameMembers, IsRepair, IsRepairOf, SameVersionsRepair, OriginalIsRepaired}
use Rattle.ffv1_weave.proofs.Tried.{one_count}
use Rattle.ffv1_weave.proofs.Returned.{RestsOnMembers, only_as}
use Rattle.ffv1_weave.proofs.WeaveLaws.{combination_as, tried_as, few_as}

pub repair_as : (versions others : List (List ℕ)) → HasSameMembers versions others → (bytes : List ℕ) → IsRepair versions bytes → IsRepair others bytes
repair_as versions others same bytes h =
    record {
      split = h.split;
      count = h.count;
      tried = tried_as versions others same h.split h.count h.tried;
      base = h.base;
      combination = combination_as versions others same h.split h.base h.combination;
      bit = h.bit;
      inside = h.inside;
      is = h.is;
      passes = h.passes;
    }

pub repair_of_as : RestsOnMembers IsRepairOf
repair_of_as versions others same bytes count h =
    record {
      only = only_as IsRepair repair_as versions others same bytes h.only;
      combinations = h.combinations;
      few = few_as versions others same h.combinations h.few;
      counted = h.counted;
      within = h.within;
    }

pub same_versions_repair : SameVersionsRepair
same_versions_repair =
    record {
      same = λ versions others bytes count same h. repair_of_as versions others same bytes count h;
      one = λ versions bytes others count other h k. let same : bytes ≡ others = k.only.others bytes h.only.there in (
        same,
        h.counted ∙ ap (λ n. n * (8 * length bytes)) (one_count versions h.combinations k.combinations h.few k.few)
            ∙ ap (λ xs. k.combinations * (8 * length xs)) same ∙ sym k.counted,
      );
    }

pub original_is_repaired : OriginalIsRepaired
original_is_repaired original versions bytes count original_there h = sym (h.only.others original original_there)
