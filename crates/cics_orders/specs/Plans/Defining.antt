-- What a line of a script defines or loads.
use Rattle.std.specs.Prelude.{Option, None, Result, Ok}
use Rattle.cics_names.specs.Keyed.{value_at, has_key, is_key_in}
use Rattle.cics_history.specs.State.{OpeningState}
use Rattle.cics_history.specs.Openings.{with_file, with_record, with_prefix, with_queue, with_td_record}
use Rattle.cics_units.specs.Opening.Faults.{file_fault, load_fault, load_td_fault, fault_if}
use Rattle.cics_units.specs.declared.opening.opening.DefineFault.{DefineFault}
use Rattle.cics_script.specs.declared.lines.Line.{Line}
use Rattle.cics_script.specs.declared.lines.Line.TheVariants.{DefineFile, DefineTsPrefix, DefineTd, LoadFile, LoadTd}
use Rattle.cics_script.specs.declared.faults.LineFault.{LineFault}

-- what is defined, with a line more
unfoldable pub defined_by : OpeningState → Result Line LineFault → OpeningState
defined_by o (Ok (DefineFile name d)) = with_file o name d
defined_by o (Ok (DefineTsPrefix prefix)) = with_prefix o prefix
defined_by o (Ok (DefineTd name recovery)) = with_queue o name recovery
defined_by o (Ok (LoadFile name content)) = with_record o name content
defined_by o (Ok (LoadTd name content)) = with_td_record o name content
defined_by o _ = o

-- why a definition or a load is refused, if it is
abbrev pub define_fault : OpeningState → Line → Option DefineFault
define_fault o (DefineFile name d) = file_fault o name d
define_fault o (DefineTsPrefix prefix) = fault_if (is_key_in prefix o.prefixes)
define_fault o (DefineTd name recovery) = fault_if (has_key name o.queues)
define_fault o (LoadFile name content) = load_fault (value_at name o.files) content
define_fault o (LoadTd name content) = load_td_fault (value_at name o.queues) content
define_fault o _ = None
