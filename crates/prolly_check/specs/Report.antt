-- What is said of a chunk file, in short.
use Rattle.std.specs.Prelude.{◌≡◌, length}
use Rattle.prolly_entry.specs.Cut.{sha512_cut}
use Rattle.prolly_tree.specs.File.{root_reference}
use Rattle.prolly_look_up.specs.Content.{chunks_of, Content}
use Rattle.prolly_check.specs.declared.report.FileReport.{FileReport}

-- The report is that of the file of the content.
pub record IsReportOf (content : Content) (report : FileReport) : Type 0 where
  pub version : report.version ≡ content.version
  pub bits : report.bits ≡ content.bits
  pub root : report.root.0 ≡ root_reference (sha512_cut content.bits) content.version content.pairs
  pub chunks : report.chunks ≡ length (chunks_of content)
  pub pairs : report.pairs ≡ length content.pairs
