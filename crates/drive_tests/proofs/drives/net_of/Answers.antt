use Rattle.drive_tests.proofs.drives.net_of.Goals as goal

pub returns-in-Ok : goal.returns-in-Ok
returns-in-Ok c =
    let read = c.in-Ok.ensures.ok in record {
      closed = read.told.closed;
      basic = read.told.basic;
      command = read.told.command;
      specified = read.told.specified;
      admitted = read.admitted;
    }
