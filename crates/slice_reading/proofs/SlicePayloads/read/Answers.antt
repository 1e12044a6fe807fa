-- `slice_reading::SlicePayloads::read` meets its contract: the first refusal stands, or all are read.
use Rattle.slice_shape.specs.declared.SliceRefusal.TheVariants.{Y, Cb, Cr}
use Rattle.slice_reading.proofs.JoinLaws.{read-of, refused-of, refused-y, refused-cb, refused-cr, all-placed}
use Rattle.slice_reading.proofs.SlicePayloads.read.Goals as goal

pub returns-in_err-y-clause-slice : goal.returns-in_err-y-clause-slice
returns-in_err-y-clause-slice c =
    let p = c.args.self.payloads in
    let s = c.args.self.shape in
    let d = refused-of Y c.read_component.result c.map_err.result c.in_err-y.field-0.0 c.from_residual.result c.map_err.ensures.cases c.in_err-y.was c.from_residual.ensures.1 in
    rw d.2 (refused-y p.y.now p.cb.now p.cr.now s.macroblocks s.chroma s.scan (rw d.1 at c.read_component.ensures.read))

pub returns-in_err-cb-clause-slice : goal.returns-in_err-cb-clause-slice
returns-in_err-cb-clause-slice c =
    let p = c.args.self.payloads in
    let s = c.args.self.shape in
    let few = c.chroma_blocks-c.ensures in
    let a = c.from_residual-in_err-cb in
    let y = read-of Y c.read_component.result c.map_err.result c.in_ok-y.y c.map_err.ensures.cases c.in_ok-y.was in
    let d = refused-of Cb c.read_component-2.result c.map_err-2.result c.in_err-cb.field-0.0 a.result c.map_err-2.ensures.cases c.in_err-cb.was a.ensures.1 in
    rw d.2 (refused-cb p.y.now p.cb.now p.cr.now s.macroblocks s.chroma s.scan (rw y at c.read_component.ensures.read) (rw (few, d.1) at c.read_component-2.ensures.read))

pub returns-in_err-cr-clause-slice : goal.returns-in_err-cr-clause-slice
returns-in_err-cr-clause-slice c =
    let p = c.args.self.payloads in
    let s = c.args.self.shape in
    let few = c.chroma_blocks-c.ensures in
    let a = c.from_residual-in_err-cr in
    let y = read-of Y c.read_component.result c.map_err.result c.in_ok-y.y c.map_err.ensures.cases c.in_ok-y.was in
    let cb = read-of Cb c.read_component-2.result c.map_err-2.result c.in_ok-cb.cb c.map_err-2.ensures.cases c.in_ok-cb.was in
    let d = refused-of Cr c.read_component-3.result c.map_err-3.result c.in_err-cr.field-0.0 a.result c.map_err-3.ensures.cases c.in_err-cr.was a.ensures.1 in
    rw d.2 (refused-cr p.y.now p.cb.now p.cr.now s.macroblocks s.chroma s.scan (rw y at c.read_component.ensures.read) (rw (few, cb) at c.read_component-2.ensures.read)
    (rw (few, d.1) at c.read_component-3.ensures.read))

pub returns-clause-slice : goal.returns-clause-slice
returns-clause-slice c =
    let p = c.args.self.payloads in
    let s = c.args.self.shape in
    let few = c.chroma_blocks-c.ensures in
    let y = read-of Y c.read_component.result c.map_err.result c.in_ok-y.y c.map_err.ensures.cases c.in_ok-y.was in
    let cb = read-of Cb c.read_component-2.result c.map_err-2.result c.in_ok-cb.cb c.map_err-2.ensures.cases c.in_ok-cb.was in
    let cr = read-of Cr c.read_component-3.result c.map_err-3.result c.in_ok-cr.cr c.map_err-3.ensures.cases c.in_ok-cr.was in
    all-placed p.y.now p.cb.now p.cr.now s.macroblocks s.chroma s.scan (rw y at c.read_component.ensures.read) (rw (few, cb) at c.read_component-2.ensures.read)
    (rw (few, cr) at c.read_component-3.ensures.read)
