-- Worked rows: reports on two endings and on one, and an order as a script.
use Rattle.std.proofs.Common.{ℕ, ◌≡◌, [], ◌∷◌, ◌++◌, refl, Some, None, true, false}
use Rattle.std.specs.Fmt.{digits}
use lib.Chars.{codes}
use Rattle.cics_names.specs.Ebcdic.{code_of, character_of}
use Rattle.cics_names.specs.Keyed.{Bytes}
use Rattle.cics_dispatch.specs.declared.machine.outcomes.Refused.TheVariants.{NoTask}
use Rattle.cics_orders.specs.Space.Endings.{greatest}
use Rattle.cics_orders.specs.declared.search.exploring.Report.{Report}
use Rattle.cics_orders.specs.declared.plans.plans.Planned.{Planned}
use Rattle.cics_orders.specs.Report.Amiss.{is_amiss}
use Rattle.cics_orders.specs.Report.Parts.{mark}
use Rattle.cics_run.specs.declared.session.running.Orders.{Orders}
use Rattle.cics_orders.specs.Report.Reporting.{report_text, every_text, endings_text, script_at}

-- the label A
abbrev a : Bytes
a = 0xC1 ∷ 0x40 ∷ 0x40 ∷ 0x40 ∷ 0x40 ∷ 0x40 ∷ 0x40 ∷ 0x40 ∷ []

-- the label B
abbrev b : Bytes
b = 0xC2 ∷ 0x40 ∷ 0x40 ∷ 0x40 ∷ 0x40 ∷ 0x40 ∷ 0x40 ∷ 0x40 ∷ []

-- two tasks and the clock
abbrev planned : Planned
planned = record {
  plan = record {
    definitions = (1, codes "DEFINE TDQUEUE('Q') LOGICAL") ∷ [];
    tasks =
        record { label = a; transaction = []; dtimout = 0; attach = (2, codes "ATTACH A TRANSID('T')"); lines = (5, codes "A EXEC CICS SYNCPOINT") ∷ (8, codes "A EXEC CICS RETURN") ∷ [] }
        ∷ record { label = b; transaction = []; dtimout = 0; attach = (3, codes "ATTACH B TRANSID('T')"); lines = (7, codes "b exec cics return") ∷ [] } ∷ [];
    clock = (6, codes "CLOCK 5") ∷ (9, codes "SHUTDOWN IMMEDIATE") ∷ [];
    written = [];
  };
  refused = record { number = 4; label = b; refusal = NoTask } ∷ [];
}

-- two endings, the second a deadlock, and as written
abbrev two : Report
two = record {
  endings =
      record { order = 0 ∷ 2 ∷ 1 ∷ 0 ∷ 2 ∷ []; ending = mark false ∷ codes "ONE\n" ∷ codes "BOTH\n" ∷ []; orders = 3; serial = 0 }
      ∷ record { order = 1 ∷ []; ending = mark true ∷ codes "BOTH\n" ∷ codes "OTHER\n" ∷ []; orders = 9; serial = 2 } ∷ [];
  is_whole = true;
  has_all_serial = true;
  written = Some (mark true ∷ codes "BOTH\n" ∷ codes "OTHER\n" ∷ []);
}

-- one ending, and orders that were left out, serial ones too, and the ending as written
abbrev cut : Report
cut = record {
  endings = record { order = []; ending = mark false ∷ codes "ONE\n" ∷ []; orders = 7; serial = 7 } ∷ [];
  is_whole = false;
  has_all_serial = false;
  written = Some (mark false ∷ codes "OTHER\n" ∷ []);
}

-- one ending, and orders that were left out, but no serial ones
abbrev cut_but_serial : Report
cut_but_serial = record {
  endings = record { order = []; ending = mark false ∷ codes "ONE\n" ∷ []; orders = 7; serial = 2 } ∷ [];
  is_whole = false;
  has_all_serial = true;
  written = None;
}

-- two endings, the first of as many orders as are counted
abbrev many : Report
many = record {
  endings =
      record { order = []; ending = mark false ∷ codes "ONE\n" ∷ []; orders = greatest; serial = 2 }
      ∷ record { order = 1 ∷ []; ending = mark false ∷ codes "OTHER\n" ∷ []; orders = 18446744073709551616; serial = 0 } ∷ [];
  is_whole = true;
  has_all_serial = true;
  written = None;
}

-- a report within a limit is wanted
abbrev within : ℕ → Orders
within limit = record { told = true; limit = limit; ending = None; strict = false; reads = false }

-- the parts of every ending are told once
two_endings : report_text planned (within 200000) two ≡
    codes "LINE 4 B REFUSED 2 NoTask\n"
    ++ codes "ORDERS 12 SERIAL 2\n"
    ++ codes "ENDINGS 2 SERIAL 1\n"
    ++ codes "EVERY ENDING\n"
    ++ codes "BOTH\n"
    ++ codes "ENDING 1 ORDERS 3 SERIAL 0\n"
    ++ codes "ORDER A CLOCK B A SHUTDOWN\n"
    ++ codes "ONE\n"
    ++ codes "ENDING 2 ORDERS 9 SERIAL 2 DEADLOCK AS WRITTEN\n"
    ++ codes "ORDER B\n"
    ++ codes "OTHER\n"
unfolding every_text endings_text digits code_of character_of
two_endings = refl

-- a limit makes lower bounds of all numbers; one ending has all its parts
cut_off : report_text planned (within 7) cut ≡
    codes "LINE 4 B REFUSED 2 NoTask\n"
    ++ codes "LIMIT 7 REACHED\n"
    ++ codes "ORDERS AT LEAST 7 SERIAL AT LEAST 7\n"
    ++ codes "ENDINGS AT LEAST 1 SERIAL AT LEAST 1\n"
    ++ codes "ENDING 1 ORDERS AT LEAST 7 SERIAL AT LEAST 7\n"
    ++ codes "ORDER\n"
    ++ codes "ONE\n"
unfolding every_text endings_text digits code_of character_of
cut_off = refl

-- numbers of serial orders are exact if all of these were followed
serial_exact : report_text planned (within 7) cut_but_serial ≡
    codes "LINE 4 B REFUSED 2 NoTask\n"
    ++ codes "LIMIT 7 REACHED\n"
    ++ codes "ORDERS AT LEAST 7 SERIAL 2\n"
    ++ codes "ENDINGS AT LEAST 1 SERIAL 1\n"
    ++ codes "ENDING 1 ORDERS AT LEAST 7 SERIAL 2\n"
    ++ codes "ORDER\n"
    ++ codes "ONE\n"
unfolding every_text endings_text digits code_of character_of
serial_exact = refl

-- the greatest number that is kept is a lower bound
counted_far : report_text planned (within 7) many ≡
    codes "LINE 4 B REFUSED 2 NoTask\n"
    ++ codes "ORDERS AT LEAST 340282366920938463463374607431768211455 SERIAL 2\n"
    ++ codes "ENDINGS 2 SERIAL 1\n"
    ++ codes "ENDING 1 ORDERS AT LEAST 340282366920938463463374607431768211455 SERIAL 2\n"
    ++ codes "ORDER\n"
    ++ codes "ONE\n"
    ++ codes "ENDING 2 ORDERS 18446744073709551616 SERIAL 0\n"
    ++ codes "ORDER B\n"
    ++ codes "OTHER\n"
unfolding every_text endings_text digits code_of character_of
counted_far = refl

-- the lines of an order stand behind those that define and attach
as_script : script_at planned.plan two 2 ≡ Some (
    codes "* ENDING 2 OF 2 ORDERS 9 SERIAL 2 DEADLOCK AS WRITTEN\n"
    ++ codes "DEFINE TDQUEUE('Q') LOGICAL\n"
    ++ codes "ATTACH A TRANSID('T')\n"
    ++ codes "ATTACH B TRANSID('T')\n"
    ++ codes "b exec cics return\n")
unfolding digits
as_script = refl

-- endings are numbered from 1 on
no_such : (script_at planned.plan two 0 ≡ None) × (script_at planned.plan two 3 ≡ None)
no_such = (refl, refl)

-- A deadlock is amiss, and an ending without serial orders. But if serial orders were left out, the
-- latter isn't known.
amiss : (is_amiss two ≡ true) × (is_amiss many ≡ true) × (is_amiss cut_but_serial ≡ false)
    × (is_amiss (record many { has_all_serial = false }) ≡ false) × (is_amiss (record two { has_all_serial = false }) ≡ true)
amiss = (refl, refl, refl, refl, refl)
