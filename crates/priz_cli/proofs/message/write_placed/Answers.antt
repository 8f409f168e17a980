use Rattle.priz_cli.proofs.message.write_placed.Goals as goal

pub returns : goal.returns
returns g c =
    rw (c.as_slice.ensures, c.as_bytes.ensures.value, c.format.ensures.text, c.as_slice-2.ensures, c.as_bytes-2.ensures.value, c.format-2.ensures.text, c.as_slice-3.ensures, c.as_slice-4.ensures) at c.write_pieces.ensures
