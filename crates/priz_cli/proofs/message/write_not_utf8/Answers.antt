use Rattle.priz_cli.proofs.message.write_not_utf8.Goals as goal

pub returns : goal.returns
returns g c =
    rw (c.as_slice.ensures, c.as_bytes.ensures.value, c.format.ensures.text, c.as_slice-2.ensures) at c.write_pieces.ensures
