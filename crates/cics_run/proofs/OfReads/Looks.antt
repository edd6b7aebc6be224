-- A command on a file that is defined, or isn't.
use Rattle.std.proofs.Common.{◌≡◌, refl, Option, Some, None}
use Rattle.cics_names.specs.Keyed.{Bytes, Map, value_at}
use Rattle.cics_ksds.specs.declared.definition.FileDef.{FileDef}
use Rattle.cics_dispatch.specs.Machine.Machine.{RegionValue, definition_of}
use Rattle.cics_run.specs.Reads.Looks.{in_file}
use Rattle.cics_run.specs.declared.reads.steps.Spot.{Spot}

module _ (r : RegionValue) (name : Bytes) (looks : FileDef → Map Bytes → Option Spot) where
  -- a file that isn't defined
  pub not-there : definition_of r.machine name ≡ None → in_file r name looks ≡ None
  not-there none = rw none refl

  -- one that is
  pub there : (d : FileDef) (records : Map Bytes) → definition_of r.machine name ≡ Some d → value_at name r.store.files ≡ Some records → in_file r name looks ≡ looks d records
  there d records is stands = rw (is, stands) refl
