use Rattle.cics_history.proofs.Places.{leads_back, ready_of}
use Rattle.cics_history.proofs.InPlace.{unmarked_by_ends, marks_ready_of}
use Rattle.cics_history.proofs.laws.images_lead_back.Goals as goal

pub returns : goal.returns
returns c = record { leads = leads_back; ready = ready_of; unmarks = unmarked_by_ends; marks_ready = marks_ready_of }
