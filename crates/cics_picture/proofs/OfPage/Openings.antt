-- What an opening lends is what it was defined with and has loaded.
use Rattle.std.proofs.Common.{◌≡◌, not, length, refl, ap, ◌∙◌}
use Rattle.std.specs.Prelude.{Option, None, Some, option_map}
use Rattle.cics_names.specs.Keyed.{Bytes, Map, value_at}
use Rattle.cics_ksds.specs.Files.{FileValue}
use Rattle.cics_transdata.specs.Trans.{TransState, queue_of, is_logical}
use Rattle.cics_history.specs.State.{OpeningState, FileOpening, QueueOpening}
use Rattle.cics_units.specs.Opening.RegionFiles.{file_of, opened_files}
use Rattle.cics_units.specs.Opening.RegionQueues.{opened_queue, opened_queues}
use Rattle.cics_units.proofs.OfOpening.Opened.{value_at-each}
use Rattle.cics_picture.specs.declared.page.notes.Cell.TheVariants as cell
use Rattle.cics_picture.specs.declared.page.notes.Change.TheVariants.{Added}
use Rattle.cics_picture.specs.declared.page.notes.Note.{Note}
use Rattle.cics_picture.specs.declared.page.notes.Note.TheVariants as note
use Rattle.cics_picture.specs.Page.Definitions.{loaded_under, record_in, loaded_in, record_last, loaded_last}

module _ (o : OpeningState) (name content : Bytes) where
  -- a file
  file-seen : (files : Map FileValue) (f : Option FileValue) → f ≡ value_at name files → files ≡ opened_files o.files → f ≡ option_map file_of (value_at name o.files)
  file-seen files f there same = there ∙ ap (value_at name) same ∙ value_at-each file_of name o.files

  pub file-there : (files : Map FileValue) (f : FileValue) → Some f ≡ value_at name files → files ≡ opened_files o.files → loaded_under name content f.definition ≡ loaded_in o name content
  file-there files f there same = by (value_at name o.files) (file-seen files (Some f) there same)
    where
      by : (v : Option FileOpening) → Some f ≡ option_map file_of v → loaded_under name content f.definition ≡ record_in name content v
      by None is = absurd (some_none is)
        where
          some_none : Some f ≡ None → ⊥
          some_none e = cc
      by (Some file) is = let inside : f ≡ file_of file = cc in ap (λ x. loaded_under name content x.definition) inside

  pub file-nowhere : (files : Map FileValue) → None ≡ value_at name files → files ≡ opened_files o.files → None ≡ loaded_in o name content
  file-nowhere files gone same = by (value_at name o.files) (file-seen files None gone same)
    where
      by : (v : Option FileOpening) → None ≡ option_map file_of v → None ≡ record_in name content v
      by None is = refl
      by (Some file) is = absurd (none_some is)
        where
          none_some : None ≡ Some (file_of file) → ⊥
          none_some e = cc

  -- the note of a record that was loaded last into a queue
  abbrev last_note : TransState → Option Note
  last_note q = Some (note.Set (cell.TdRecord name (length (queue_of q))) (Added content) (not (is_logical q.kind)))

  queue-seen : (queues : Map TransState) (q : Option TransState) → q ≡ value_at name queues → queues ≡ opened_queues o.queues → q ≡ option_map opened_queue (value_at name o.queues)
  queue-seen queues q there same = there ∙ ap (value_at name) same ∙ value_at-each opened_queue name o.queues

  pub queue-there : (queues : Map TransState) (q : TransState) → Some q ≡ value_at name queues → queues ≡ opened_queues o.queues → last_note q ≡ loaded_last o name content
  queue-there queues q there same = by (value_at name o.queues) (queue-seen queues (Some q) there same)
    where
      by : (v : Option QueueOpening) → Some q ≡ option_map opened_queue v → last_note q ≡ record_last name content v
      by None is = absurd (some_none is)
        where
          some_none : Some q ≡ None → ⊥
          some_none e = cc
      by (Some queue) is = let inside : q ≡ opened_queue queue = cc in ap last_note inside

  pub queue-nowhere : (queues : Map TransState) → None ≡ value_at name queues → queues ≡ opened_queues o.queues → None ≡ loaded_last o name content
  queue-nowhere queues gone same = by (value_at name o.queues) (queue-seen queues None gone same)
    where
      by : (v : Option QueueOpening) → None ≡ option_map opened_queue v → None ≡ record_last name content v
      by None is = refl
      by (Some queue) is = absurd (none_some is)
        where
          none_some : None ≡ Some (opened_queue queue) → ⊥
          none_some e = cc
