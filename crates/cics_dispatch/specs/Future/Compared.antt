-- What is compared of two regions: files and queues as they stand once every open unit is backed
-- out, and what each open unit did. No before image is compared, nor what stands now.
use Rattle.std.specs.Prelude.{◌≡◌, map, []}
use Rattle.cics_names.specs.Keyed.{Bytes}
use Rattle.cics_history.specs.Serial.{store_without_others}
use Rattle.cics_dispatch.specs.Machine.Machine.{Machine}
use Rattle.cics_dispatch.specs.Future.Futures.{own, unnumbered}

-- the regions look alike: nothing that is compared tells them apart
pub record LookAlike (m n : Machine) : Type 0 where
  pub opening : m.units.opening ≡ n.units.opening
  pub tasks : map unnumbered m.tasks ≡ map unnumbered n.tasks
  pub own : (label : Bytes) → own m label ≡ own n label
  pub committed : store_without_others m.units [] ≡ store_without_others n.units []
  pub next : m.units.next ≡ n.units.next
  pub waiting : m.waiting ≡ n.waiting
  pub clock : m.clock ≡ n.clock
  pub down : m.is_down ≡ n.is_down
