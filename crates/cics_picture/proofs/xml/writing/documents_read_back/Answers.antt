use Rattle.cics_picture.proofs.OfXml.ReadBack.{read_back}
use Rattle.cics_picture.proofs.xml.writing.documents_read_back.Goals as goal

pub returns : goal.returns
returns c = read_back
