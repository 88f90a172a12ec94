-- What a check tells. (This project's rules.)
use Rattle.std.specs.Prelude.{◌≡◌, ℕ, List, length, Err}
use Rattle.prolly_entry.specs.Cut.{sha512_cut}
use Rattle.prolly_entry.specs.Version.{version_byte}
use Rattle.prolly_tree.specs.File.{root_reference}
use Rattle.prolly_look_up.specs.Content.{chunks_of, Content}
use Rattle.prolly_check.specs.Verdict.{IsVerdict}
use Rattle.prolly_check.specs.declared.verdict.fault.CheckFault.{CheckFault}
use Rattle.prolly_check.specs.declared.verdict.fault.CheckFault.TheVariants as faults
use Rattle.prolly_c.specs.declared.check.Report.{Report}

-- The report is that of the file of the content.
pub record IsReport (content : Content) (report : Report) : Type 0 where
  pub root : report.root ≡ root_reference (sha512_cut content.bits) content.version content.pairs
  pub version : report.version ≡ version_byte content.version
  pub bits : report.bits ≡ content.bits
  pub chunks : report.chunks ≡ length (chunks_of content)
  pub pairs : report.pairs ≡ length content.pairs
  pub faulty : report.faulty ≡ 0

-- Nothing but the chunk that a fault names is told anew.
abbrev pub KeepsRest : Report → Report → Type 0
KeepsRest old new = new ≡ record {
  root = old.root;
  version = old.version;
  bits = old.bits;
  chunks = old.chunks;
  pairs = old.pairs;
  faulty = new.faulty;
}

-- The status of a fault of a check, and the chunk that it names.
abbrev pub status_of_check : CheckFault → ℕ × ℕ
status_of_check faults.Memory = (2, 0)
status_of_check faults.Truncated = (16, 0)
status_of_check faults.BadHeader = (17, 0)
status_of_check (faults.BadFrame chunk) = (18, chunk)
status_of_check faults.Trailing = (19, 0)
status_of_check (faults.BadChunk chunk) = (20, chunk)
status_of_check (faults.KeysOutOfOrder chunk) = (21, chunk)
status_of_check (faults.NotCanonical chunk) = (22, chunk)
status_of_check faults.BadEnd = (23, 0)
status_of_check (faults.Collision chunk) = (24, chunk)
status_of_check faults.Read = (25, 0)
status_of_check faults.TooLong = (26, 0)

-- The bytes are refused by their first fault, and this is its status, and the chunk that it names.
pub record IsRefused (bytes : List ℕ) (status : ℕ) (report : Report) : Type 0 where
  pub fault : CheckFault
  pub verdict : IsVerdict bytes (Err fault)
  pub is : status_of_check fault ≡ (status, report.faulty)
