-- The exceptional conditions, their numbers in EIBRESP, and the abend codes that they have by
-- default.
use Rattle.std.specs.Prelude.{ℕ, Option, Some, None, List, [], ◌∷◌}
use Rattle.cics_names.specs.declared.conditions.Condition.{Condition}
use Rattle.cics_names.specs.declared.conditions.Condition.TheVariants.{Normal, Dsiderr, Notfnd, Duprec, Invreq, Endfile, Lengerr, Qzero, Qbusy, Itemerr, Qiderr, Enqbusy}
use Rattle.cics_names.specs.declared.conditions.AbendCode.{AbendCode}
use lib.Chars.{codes}

-- the number that RESP returns
abbrev pub number_of : Condition → ℕ
number_of Normal = 0
number_of Dsiderr = 12
number_of Notfnd = 13
number_of Duprec = 14
number_of Invreq = 16
number_of Endfile = 20
number_of Lengerr = 22
number_of Qzero = 23
number_of Qbusy = 25
number_of Itemerr = 26
number_of Qiderr = 44
number_of Enqbusy = 55

-- the name that a journal prints
abbrev pub title_of : Condition → List ℕ
title_of Normal = codes "NORMAL"
title_of Dsiderr = codes "DSIDERR"
title_of Notfnd = codes "NOTFND"
title_of Duprec = codes "DUPREC"
title_of Invreq = codes "INVREQ"
title_of Endfile = codes "ENDFILE"
title_of Lengerr = codes "LENGERR"
title_of Qzero = codes "QZERO"
title_of Qbusy = codes "QBUSY"
title_of Itemerr = codes "ITEMERR"
title_of Qiderr = codes "QIDERR"
title_of Enqbusy = codes "ENQBUSY"

-- an abend code whose third and fourth letters have these codes; each default code begins with A
-- and E
abbrev pub code_ae : ℕ → ℕ → Option AbendCode
code_ae third fourth = Some (record { 0 = 0xC1 ∷ 0xC5 ∷ third ∷ fourth ∷ [] })

-- the code that a task is abended with if it handles the condition nowhere; three conditions abend
-- no task
abbrev pub default_abend_of : Condition → Option AbendCode
default_abend_of Normal = None
default_abend_of Dsiderr = code_ae 0xC9 0xD3
default_abend_of Notfnd = code_ae 0xC9 0xD4
default_abend_of Duprec = code_ae 0xC9 0xD5
default_abend_of Invreq = code_ae 0xC9 0xD7
default_abend_of Endfile = code_ae 0xC9 0xE3
default_abend_of Lengerr = code_ae 0xC9 0xE5
default_abend_of Qzero = code_ae 0xC9 0xE6
default_abend_of Qbusy = None
default_abend_of Itemerr = code_ae 0xC9 0xE9
default_abend_of Qiderr = code_ae 0xE8 0xC8
default_abend_of Enqbusy = None
