use Rattle.std.specs.Prelude.{refl}
use Rattle.cics_script.specs.Words.{commands}
use Rattle.cics_script.proofs.lines.common_verb.Goals as goal

pub returns-in-82-eq32 : goal.returns-in-82-eq32
returns-in-82-eq32 c = c.named.ensures commands refl

pub returns-in-82-eq81 : goal.returns-in-82-eq81
returns-in-82-eq81 c = c.named-in-82-eq81.ensures commands refl

pub returns-in-82-eq78 : goal.returns-in-82-eq78
returns-in-82-eq78 c = c.named-in-82-eq78.ensures commands refl

pub returns-in-82-eq82 : goal.returns-in-82-eq82
returns-in-82-eq82 c = c.named-in-82-eq82.ensures commands refl

pub returns-in-82-default : goal.returns-in-82-default
returns-in-82-default c = c.named-in-82-default.ensures commands refl

pub returns-in-None : goal.returns-in-None
returns-in-None c = c.named-in-None.ensures commands refl

pub returns-in-69-default : goal.returns-in-69-default
returns-in-69-default c = c.named-in-69-default.ensures commands refl

pub returns-in-68-eq84 : goal.returns-in-68-eq84
returns-in-68-eq84 c = c.named-in-68-eq84.ensures commands refl

pub returns-in-68-default : goal.returns-in-68-default
returns-in-68-default c = c.named-in-68-default.ensures commands refl

pub returns-in-83-default : goal.returns-in-83-default
returns-in-83-default c = c.named-in-83-default.ensures commands refl
