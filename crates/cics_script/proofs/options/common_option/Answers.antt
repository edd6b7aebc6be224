use Rattle.std.specs.Prelude.{refl}
use Rattle.cics_script.specs.Words.{option_words}
use Rattle.cics_script.proofs.options.common_option.Goals as goal

pub returns-in-68-default : goal.returns-in-68-default
returns-in-68-default c = c.named.ensures option_words refl

pub returns-in-70-eq69 : goal.returns-in-70-eq69
returns-in-70-eq69 c = c.named-in-70-eq69.ensures option_words refl

pub returns-in-70-default : goal.returns-in-70-default
returns-in-70-default c = c.named-in-70-default.ensures option_words refl

pub returns-in-73-eq77 : goal.returns-in-73-eq77
returns-in-73-eq77 c = c.named-in-73-eq77.ensures option_words refl

pub returns-in-73-default : goal.returns-in-73-default
returns-in-73-default c = c.named-in-73-default.ensures option_words refl

pub returns-in-76-eq73 : goal.returns-in-76-eq73
returns-in-76-eq73 c = c.named-in-76-eq73.ensures option_words refl

pub returns-in-76-default : goal.returns-in-76-default
returns-in-76-default c = c.named-in-76-default.ensures option_words refl

pub returns-in-78-default : goal.returns-in-78-default
returns-in-78-default c = c.named-in-78-default.ensures option_words refl

pub returns-in-81-default : goal.returns-in-81-default
returns-in-81-default c = c.named-in-81-default.ensures option_words refl

pub returns-in-82-eq70 : goal.returns-in-82-eq70
returns-in-82-eq70 c = c.named-in-82-eq70.ensures option_words refl

pub returns-in-82-eq79 : goal.returns-in-82-eq79
returns-in-82-eq79 c = c.named-in-82-eq79.ensures option_words refl

pub returns-in-82-default : goal.returns-in-82-default
returns-in-82-default c = c.named-in-82-default.ensures option_words refl

pub returns-in-84-eq85 : goal.returns-in-84-eq85
returns-in-84-eq85 c = c.named-in-84-eq85.ensures option_words refl

pub returns-in-84-default : goal.returns-in-84-default
returns-in-84-default c = c.named-in-84-default.ensures option_words refl

pub returns-in-85-default : goal.returns-in-85-default
returns-in-85-default c = c.named-in-85-default.ensures option_words refl
