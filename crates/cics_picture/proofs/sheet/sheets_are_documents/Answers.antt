use Rattle.cics_picture.proofs.WellFormed.{sheet_read}
use Rattle.cics_picture.proofs.sheet.sheets_are_documents.Goals as goal

pub returns : goal.returns
returns c = sheet_read
