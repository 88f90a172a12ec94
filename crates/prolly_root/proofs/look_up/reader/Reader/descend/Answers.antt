use Rattle.std.proofs.Common.{ap, rules, subst, sym}
use Rattle.prolly_look_up.specs.Sought.{sought_of}
use Rattle.prolly_root.specs.Descent.{IsWayDown, chunks_on_way}
use Rattle.prolly_root.specs.LookUpFault.{ComesToEnd, MayTell}
use Rattle.prolly_root.specs.Reader.{IsReaderIn}
use Rattle.prolly_root.proofs.Descending.{look_up_fails}
use Rattle.prolly_root.proofs.look_up.reader.Reader.descend.Goals as goal

pub go_down-requires : goal.go_down-requires
go_down-requires g c = rw c.replace-kept.ensures.value c.self.invariant

pub returns-in_err-descent-clause-looked : goal.returns-in_err-descent-clause-looked
returns-in_err-descent-clause-looked g c =
    let view = c.self.view_is in
    look_up_fails c.in_err-descent.field-0.0 c.from_residual.result c.from_residual.ensures
    (search rules) (λ file goes reader.
    let opened = subst (IsReaderIn g.S.ChunkSource.stands file) (sym view) reader in
    subst (λ r. MayTell r.version file r.root (sought_of c.args.sought) c.in_err-descent.field-0.0)
    view (c.in_err-descent.ensures.tells file goes opened.top
    (rw c.replace-kept.ensures.value opened.levels))) c.in_err-descent.ensures.asked

pub returns-clause-looked : goal.returns-clause-looked
returns-clause-looked g c =
    let view = c.self.view_is in record {
      of = (ap (λ r. r.version) view, ap (λ r. r.root) view);
      none = tt;
      kept = λ file goes reader.
          let opened = subst (IsReaderIn g.S.ChunkSource.stands file) (sym view) reader in
          record {
            top = opened.top;
            levels = (c.in_ok-descent.ensures.tells file goes opened.top
                (rw c.replace-kept.ensures.value opened.levels)).0;
          };
      tells = λ file goes reader.
          let opened = subst (IsReaderIn g.S.ChunkSource.stands file) (sym view) reader in
          subst (λ r. ComesToEnd r.version file r.root (sought_of c.args.sought)) view
          (c.in_ok-descent.ensures.tells file goes opened.top
          (rw c.replace-kept.ensures.value opened.levels)).1;
      asked = c.in_ok-descent.ensures.asked;
    }

pub returns-clause-found : goal.returns-clause-found
returns-clause-found g c = subst (λ r. IsWayDown r.version r.root (sought_of c.args.sought)
    (chunks_on_way c.in_ok-descent.descent.levels.items)
    (sought_of c.in_ok-descent.descent.sought)) c.self.view_is c.in_ok-descent.ensures.found.to
