use Rattle.std.proofs.Common.{◌++◌, ap, ◌∙◌, append_assoc}
use Rattle.std.proofs.lemmas.Result.{on_ok_weaker}
use Rattle.cics_picture.specs.Page.Texts.{resource_text}
use Rattle.cics_picture.proofs.page.texts.push_releases.Goals as goal
use lib.Chars.{codes}

pub returns : goal.returns
returns c =
    let o = c.args.out.now.items in
    let r = resource_text (codes "<p class=\"off ") (codes "\">releases ") c.args.held.now in
    on_ok_weaker c.push_str.result (λ put. put ∙ ap (λ t. t ++ codes "</p>") c.in_ok-push_resource.ensures ∙ append_assoc o r (codes "</p>")) c.push_str.ensures
