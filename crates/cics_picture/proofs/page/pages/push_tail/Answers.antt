use Rattle.std.proofs.Common.{◌++◌, ap, ◌∙◌, append_assoc}
use Rattle.std.proofs.lemmas.Result.{on_ok_weaker}
use Rattle.cics_picture.specs.declared.page.body.TheConstants.{BODY}
use Rattle.cics_picture.specs.declared.page.player.TheConstants.{PLAYER}
use Rattle.cics_picture.specs.Page.Lines.{tail}
use Rattle.cics_picture.proofs.page.pages.push_tail.Goals as goal

pub returns : goal.returns
unfolding tail
returns c =
    on_ok_weaker c.push_str-2.result (λ put. put ∙ ap (λ t. t ++ PLAYER.now) c.in_ok-push_str.ensures ∙ append_assoc c.args.out.now.items BODY.now PLAYER.now) c.push_str-2.ensures
