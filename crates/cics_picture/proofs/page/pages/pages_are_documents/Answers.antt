use Rattle.cics_picture.proofs.OfPage.Documents.{page-read}
use Rattle.cics_picture.proofs.page.pages.pages_are_documents.Goals as goal

pub returns : goal.returns
returns c = page-read
