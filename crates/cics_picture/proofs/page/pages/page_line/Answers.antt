use Rattle.cics_picture.specs.Page.Lines.{page_line}
use Rattle.cics_picture.proofs.OfPage.Playing.{line-put}
use Rattle.cics_picture.proofs.page.pages.page_line.Goals as goal

pub returns-in-Ok-clause-puts : goal.returns-in-Ok-clause-puts
returns-in-Ok-clause-puts c =
    let (ran, fault, kept) = c.in_ok-is_fault.ensures.runs in
    let put = line-put c.args.session.now c.args.line.now c.follow_line.new.session.stage c.follow_line.new.pager c.defined_behind.new.pager c.deref.result.now c.in_ok-defined.defined
    ran.stage c.in_ok-is_fault.ensures.steps c.in_ok-defined.ensures.steps c.deref.ensures.value c.in_ok-defined.ensures.value in
    record {
      put = page_line c.args.line.now c.deref.result.now c.in_ok-defined.defined;
      plain_one = put.0;
      has = c.in-Ok.ensures.text;
      steps = c.in-Ok.ensures.steps;
      last = c.push_line.ensures.last;
    }

pub returns-clause-too_long : goal.returns-clause-too_long
returns-clause-too_long c is =
    let (ran, fault, kept) = c.in_ok-is_fault.ensures.runs in
    let put = line-put c.args.session.now c.args.line.now c.follow_line.new.session.stage c.follow_line.new.pager c.defined_behind.new.pager c.deref.result.now c.in_ok-defined.defined
    ran.stage c.in_ok-is_fault.ensures.steps c.in_ok-defined.ensures.steps c.deref.ensures.value c.in_ok-defined.ensures.value in
    record { put = page_line c.args.line.now c.deref.result.now c.in_ok-defined.defined; plain_one = put.0; long = c.in-Err.ensures.too_long is }
