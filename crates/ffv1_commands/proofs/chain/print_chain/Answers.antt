use Rattle.std.proofs.Common.{List, ℕ, [], ◌++◌, refl, sym, subst}
use Rattle.std.proofs.lemmas.Result.{err_from_is_err_and}
use Rattle.ffv1_slice.specs.Ending.{EndsAs}
use Rattle.ffv1_devices.proofs.Steps.{Writes-nil}
use Rattle.ffv1_commands.specs.ChainText.{link_line}
use Rattle.ffv1_commands.proofs.PrintSteps.{front-more}
use Rattle.ffv1_commands.proofs.ChainSteps.{lines-more, link_fails, end_printed}
use Rattle.ffv1_commands.proofs.chain.print_chain.Goals as goal

pub loop-link-init : goal.loop-link-init
loop-link-init g c = record {
  large = c.requires.large;
  reported = ([], refl, record { printed = []; split = sym c.requires.empty; written = Writes-nil _ });
}

pub loop-link-preserved : goal.loop-link-preserved
loop-link-preserved g c =
    let reported = c.loop-link.invariant.reported in
    let link = c.in-Some.link in
    record {
      large = c.print_link.ensures.large;
      reported = (
        reported.0 ++ link_line link,
        lines-more reported.0 _ link c.loop-link.chain.left c.next_link.new.chain.left reported.1 c.in-Some.ensures.some,
        front-more _ _ _ _ _ (link_line link) reported.2 _ c.in_ok-print_link.ensures.ok,
      );
    }

pub returns-in_err-print_link : goal.returns-in_err-print_link
returns-in_err-print_link g c =
    let p = err_from_is_err_and c.from_residual.result c.from_residual.ensures.1 in
    let reported = c.loop-link.invariant.reported in
    let ends = subst (λ (payload : List ℕ). EndsAs payload c.end-end.result) c.new-chain.ensures.payload c.end-end.ensures in
    rw p.1 (link_fails _ _ _ _ reported.0 c.new-chain.result.left c.loop-link.chain.left c.end-end.result reported.1 reported.2 c.args.payload.now
    c.new-chain.ensures.links ends c.in_err-print_link.ensures.err)

pub returns : goal.returns
returns g c =
    let reported = c.loop-link.invariant.reported in
    let ends = subst (λ (payload : List ℕ). EndsAs payload c.end-end.result) c.new-chain.ensures.payload c.end-end.ensures in
    end_printed _ _ _ _ reported.0 c.new-chain.result.left c.loop-link.chain.left c.end-end.result reported.1 reported.2 c.args.payload.now
    c.new-chain.ensures.links ends c.print_end.result c.in_default.ensures.none c.print_end.ensures
